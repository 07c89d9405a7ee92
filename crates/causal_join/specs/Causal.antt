-- Causal pairs, after Almeida, Shoker and Baquero, "Delta State Replicated Data Types" (2018):
-- a causal state is a pair of a dot store and a causal context, and each dot of the store is in the context.
use Rattle.std.specs.Prelude.{Option}
use Rattle.dots.specs.Dot.{DotValue}
use Rattle.causal_context.specs.Context.{ContextValue, has}
use Rattle.op_model.specs.State.{State}
use Rattle.dot_store.specs.Store.{state_with}

-- the state that a pair of a store and a context stands for, where a store is read by `at`
abbrev pub state_of : {S P H : Type 0} → (S → P → DotValue → Option H) → S × ContextValue → State P H
state_of at pair = state_with (at pair.0) (has pair.1)
