-- Three ways: refused before the record is read, by the reader, or judged; each is a law of Parts from its callees' contracts.
use Rattle.std.proofs.Common.{◌≡◌, true, sym, refl, subst}
use Rattle.codes.proofs.Refusals.{passed-on, some_number}
use Rattle.window.specs.Window.{lawful_in}
use Rattle.window.proofs.Asked.{asked-lawful, asks-few, asks-long}
use Rattle.window.proofs.Parts.{add-refused, add-unread, add-judged}
use Rattle.window.proofs.window_add.Goals as goal

pub returns-in-Err : goal.returns-in-Err
returns-in-Err c =
    add-refused _ _ _ _ _ _ _ _ _ _ _ _ _ _ (refl, refl) c.in-Err.ensures (some_number c.in-Err.refusal) _ _ _ c.clear.ensures.items_after
    c.clear.ensures.text_after (c.fill.ensures.after (λ y e. e))

pub returns-in_err-pair : goal.returns-in_err-pair
returns-in_err-pair c =
    rw (passed-on c.from_residual.result c.in_err-pair.field-0.0 c.from_residual.ensures.1)
    (add-unread _ _ _ _ _ _ _ _ _ _ _ _ _ _ (refl, refl) (sym c.in_default.ensures) _ _ _ _ _ c.in_err-pair.ensures refl (some_number c.in_err-pair.field-0.0))

pub take_pair-requires : goal.take_pair-requires
take_pair-requires c =
    let s = c.args.setting.now in
    let passed = asked-lawful _ _ _ _ _ _ _ _ (sym c.in_default.ensures) in
    let few = asks-few _ _ _ _ _ _ _ _ _ passed.0 in
    (few.0, (few.1, (asks-long _ _ _ _ _ _ _ _ _ passed.0, subst (λ k. lawful_in s.w k c.args.window.now ≡ true) (sym c.scale.ensures) passed.1)))

pub returns : goal.returns
returns c =
    add-judged _ _ _ _ _ _ _ _ _ _ _ (sym c.in_default.ensures) _ _ _ _ _ c.in_ok-pair.ensures refl _ c.scale.ensures _ _ _ _ c.take_pair.ensures
