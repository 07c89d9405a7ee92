-- What is said of a result, said otherwise.
use Rattle.std.proofs.Common.{Result, Ok, Err, IfOk, IfErr, IsOkUnless, OnOk, OnErr, is_ok, cond, List, [], ◌∷◌, ◌++◌, map, ◌≡◌, ap, ◌∙◌, subst, ℕ}
use Rattle.std.proofs.lemmas.List.{map-append}
use Rattle.wire_form.specs.declared.message.Message.{Message}
use Rattle.wire_form.specs.Message.{message_of}
use Rattle.replica_model.specs.Mail.{mail_of}
use Rattle.replica_model.specs.Step.{Act, Answer}
use Rattle.replica_core.specs.Meaning.{ReplicaValue}
use Rattle.replica_core.specs.Stepping.{Steps, mails_of}
use Rattle.replica_core.proofs.Asks.{mails_are}

-- a step that sent these messages, by what they are
pub step_of_messages : {A Hash : Type 0} (hash_of : Hash → List ℕ → ℕ) (old new : ReplicaValue Hash) (act : Act) (answer : Answer) (messages : List (Message A))
    → Steps hash_of old new act answer (mails_of messages) → Steps hash_of old new act answer (map mail_of (map message_of messages))
step_of_messages hash_of old new act answer messages steps = subst (Steps hash_of old new act answer) (mails_are messages) steps

pub if_ok_weaker : {T E : Type 0} {P Q : T → Type 0} (result : Result T E) → ((x : T) → P x → Q x) → IfOk result P → IfOk result Q
if_ok_weaker (Ok x) weaker is = weaker x is
if_ok_weaker (Err e) weaker is = tt

pub on_ok_from : {T E : Type 0} {P : T → Type 0} {Q : Type 0} (result : Result T E) → ((x : T) → P x → Q) → IfOk result P → OnOk result Q
on_ok_from (Ok x) weaker is = weaker x is
on_ok_from (Err e) weaker is = tt

pub on_ok_all : {T E Q : Type 0} (result : Result T E) → Q → OnOk result Q
on_ok_all (Ok x) is = is
on_ok_all (Err e) is = tt

pub if_err_weaker : {T E : Type 0} {P Q : E → Type 0} (result : Result T E) → ((e : E) → P e → Q e) → IfErr result P → IfErr result Q
if_err_weaker (Ok x) weaker is = tt
if_err_weaker (Err e) weaker is = weaker e is

-- what is refused for want of memory alone
pub refused_unless : {T E : Type 0} {Q : E → Type 0} {out : E} (result : Result T E) → IsOkUnless result out → ((e : E) → e ≡ out → Q e) → IfErr result Q
refused_unless (Ok x) is weaker = tt
refused_unless (Err e) is weaker = weaker e is

pub on_err_both : {T E : Type 0} {P Q R : Type 0} (result : Result T E) → (P → Q → R) → OnErr result P → OnErr result Q → OnErr result R
on_err_both (Ok x) both first then = tt
on_err_both (Err e) both first then = both first then

-- an item that was pushed where there was room
pub list_push : {E X D : Type 0} (old reserved new : List E) (e : E) (r : Result X D) (x : X) → reserved ≡ old
    → new ≡ cond (is_ok r) (reserved ++ e ∷ []) reserved → r ≡ Ok x → new ≡ old ++ e ∷ []
list_push old reserved new e r x room pushed ok =
    pushed ∙ ap (λ (s : Result _ _). cond (is_ok s) (reserved ++ e ∷ []) reserved) ok ∙ ap (λ xs. xs ++ e ∷ []) room

pub past_push : {E V X D : Type 0} (value : E → V) (old reserved new : List E) (e : E) (r : Result X D) (x : X) → reserved ≡ old
    → new ≡ cond (is_ok r) (reserved ++ e ∷ []) reserved → r ≡ Ok x
    → map value new ≡ map value old ++ value e ∷ []
past_push value old reserved new e r x room pushed ok = ap (map value) (list_push old reserved new e r x room pushed ok) ∙ map-append value old (e ∷ [])
