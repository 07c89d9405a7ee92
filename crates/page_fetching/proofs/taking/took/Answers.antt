use Rattle.std.proofs.Common.{◌++◌, ◌∷◌, [], sym, ◌∙◌, ap, subst}
use Rattle.std.specs.Prelude.{map}
use Rattle.std.specs.List.{AllByRecursion}
use Rattle.page_fetching.specs.Taking.{IsChildOf, ArePrefixes}
use Rattle.page_fetching.proofs.Asks.{asks_can, prefixes_next}
use Rattle.page_fetching.proofs.taking.took.Goals as goal

pub asks_of-requires : goal.asks_of-requires
asks_of-requires g c =
    subst (λ p. AllByRecursion (λ d. IsChildOf p d.0) c.deref.result.now) (sym c.prefix-prefix.ensures)
    (subst (AllByRecursion (λ d. IsChildOf c.args.sent.now.prefix d.0)) (sym (c.deref.ensures.value ∙ c.in_ok-children.ensures.ok))
    (asks_can (g.H.PathHash.hash_of c.args.own.now.hash) c.args.own.now.map c.args.sent.now c.page-page.ensures.lawful))

pub of-requires : goal.of-requires
of-requires g c =
    subst ArePrefixes (sym c.in_ok-waiting.ensures.ok)
    (prefixes_next c.waiting.result.now.map c.prefix-prefix.result c.deref-2.result.now
    (subst ArePrefixes (sym c.waiting.ensures.map) c.waiting.ensures.prefixes) c.depth-depth.ensures.indices
    (subst (λ p. AllByRecursion (λ d. IsChildOf p d.0) c.deref-2.result.now) (sym c.prefix-prefix.ensures)
    (subst (AllByRecursion (λ d. IsChildOf c.args.sent.now.prefix d.0)) (sym (c.deref-2.ensures.value ∙ c.in_ok-children.ensures.ok))
    (asks_can (g.H.PathHash.hash_of c.args.own.now.hash) c.args.own.now.map c.args.sent.now c.page-page.ensures.lawful))))

pub returns-in-Ok-clause-asks : goal.returns-in-Ok-clause-asks
returns-in-Ok-clause-asks g c =
    c.in_ok-asks.ensures.ok ∙ ap (λ p. map (λ d. p ++ d.0 ∷ []) c.deref.result.now) c.prefix-prefix.ensures
    ∙ ap (map (λ d. c.args.sent.now.prefix ++ d.0 ∷ [])) (c.deref.ensures.value ∙ c.in_ok-children.ensures.ok)
