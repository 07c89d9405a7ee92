use Rattle.std.proofs.Common.{◌≡◌, ◌⊎◌, inl, inr, ℕ, List, refl, subst, arith}
use Rattle.replica_store.specs.Entry.{NAMED, OPENED, SaysNumber, SaysRead}
use Rattle.replica_store.proofs.Telling.{told_name, told_number, told_delta}
use Rattle.replica_store.proofs.reading.told_more.Goals as goal

pub returns-then-number-told : goal.returns-then-number-told
returns-then-number-told c strings told =
    let says : SaysNumber OPENED c.args.string.now c.in-Some-Opened.number =
    subst (SaysRead c.args.string.now) c.in-Some-Opened.field-0-is c.in-Some-Opened.ensures in
    told_number strings c.args.string.now c.args.name c.args.told.is_named c.args.told.number told c.in-Some-Opened.number c.args.told.number says
    (inr (c.if-number-told.true, refl))

pub returns-else-number-told : goal.returns-else-number-told
returns-else-number-told c strings told =
    let says : SaysNumber OPENED c.args.string.now c.in-Some-Opened.number =
    subst (SaysRead c.args.string.now) c.in-Some-Opened.field-0-is c.in-Some-Opened.ensures in
    told_number strings c.args.string.now c.args.name c.args.told.is_named c.args.told.number told c.in-Some-Opened.number c.in-Some-Opened.number says
    (inl (omega (arith, c.if-number-told.false), refl))

pub returns-else-kept-name : goal.returns-else-kept-name
returns-else-kept-name c strings told =
    let says : SaysNumber NAMED c.args.string.now c.in-Some-Named.kept =
    subst (SaysRead c.args.string.now) c.in-Some-Named.field-0-is c.in-Some-Named.ensures in
    told_name strings c.args.string.now c.args.name c.args.told.is_named c.args.told.number told
    (subst (SaysNumber NAMED c.args.string.now) c.if-kept-name.false says)

pub returns-in-Some-Changed : goal.returns-in-Some-Changed
returns-in-Some-Changed c strings told =
    told_delta strings c.args.string.now c.args.name c.args.told.is_named c.args.told.number told c.in-Some-Changed.field-0-0.now
    (subst (SaysRead c.args.string.now) c.in-Some-Changed.field-0-is c.in-Some-Changed.ensures)
