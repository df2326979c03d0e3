-- By the tests of the code: outside the record, a Pad, bytes that refuse, or a value that is placed; the text stays where reading put it.
use Rattle.std.proofs.Common.{refl, sym, true, length, arith}
use Rattle.codes.proofs.Refusals.{passed-on}
use Rattle.decode_leaf.proofs.Scalars.{leaf-outside, leaf-inside, leaf-pad, leaf-scalar, text-outside, text-pad, text-scalar}
use Rattle.decode_leaf.proofs.Scalars.{value-refuses, value_read, lone-reads}
use Rattle.decode_leaf.proofs.decode_lone.Goals as goal

pub returns-then-not-inside : goal.returns-then-not-inside
returns-then-not-inside c =
    let a = c.args in
    let l = a.layout.now in
    let t = c.inside in
    record {
      lone = record {
        met = leaf-outside l.words.now a.«record».now l.page a.deps a.e a.e.name true a.at (length a.items.now) a.counts.now a.told a.text.now t.result t.ensures c.if-not-inside.true;
        rest = refl;
        counts = refl;
      };
      text_after = text-outside a.«record».now l.page a.e a.at a.told a.text.now t.result t.ensures c.if-not-inside.true;
    }

pub returns-then-is : goal.returns-then-is
returns-then-is c =
    let a = c.args in
    let l = a.layout.now in
    let t = c.inside in
    record {
      lone = record {
        met = leaf-pad l.words.now a.«record».now l.page a.deps a.e a.e.name true a.at (length a.items.now) a.counts.now a.told a.text.now t.result t.ensures c.if-not-inside.false (sym c.if-is.ensures) c.requires
            c.passed.ensures;
        rest = refl;
        counts = tt;
      };
      text_after = text-pad a.«record».now l.page a.e a.at a.told a.text.now t.result t.ensures c.if-not-inside.false (sym c.if-is.ensures);
    }

pub returns-in_err-v-clause-lone : goal.returns-in_err-v-clause-lone
returns-in_err-v-clause-lone c =
    let a = c.args in
    let l = a.layout.now in
    let t = c.inside in
    let width = leaf-inside l.words.now a.«record».now l.page a.deps a.e a.e.name true a.at (length a.items.now) a.counts.now a.told a.text.now t.result t.ensures c.if-not-inside.false in
    rw (leaf-scalar l.words.now a.«record».now l.page a.deps a.e a.e.name true a.at (length a.items.now) a.counts.now a.told a.text.now (sym c.if-is.ensures))
    (rw (passed-on c.from_residual.result c.in_err-v.field-0.0 c.from_residual.ensures.1) (record {
      met = value-refuses l.words.now a.«record».now l.page a.deps a.e a.e.name true a.at (length a.items.now) a.counts.now a.told
          a.text.now width c.requires _ (rw c.field_of.ensures at c.in_err-v.ensures.result_value);
      rest = refl;
      counts = refl;
    }))

pub returns-in_err-v-clause-text_after : goal.returns-in_err-v-clause-text_after
returns-in_err-v-clause-text_after c =
    let a = c.args in
    let t = c.inside in
    text-scalar a.«record».now a.layout.now.page a.e a.at a.told a.text.now t.result t.ensures c.if-not-inside.false (sym c.if-is.ensures)
    (rw c.field_of.ensures at c.in_err-v.ensures.text_after)

pub place_lone-requires : goal.place_lone-requires
place_lone-requires c =
    let a = c.args in
    let l = a.layout.now in
    let t = c.inside in
    let width = leaf-inside l.words.now a.«record».now l.page a.deps a.e a.e.name true a.at (length a.items.now) a.counts.now a.told a.text.now t.result t.ensures c.if-not-inside.false in
    let read = value_read l.words.now a.«record».now l.page a.deps a.e a.e.name true a.at (length a.items.now) a.counts.now a.told
    a.text.now width c.requires c.in_ok-v.v (rw c.field_of.ensures at c.in_ok-v.ensures.result_value) c.read_part.new.text (rw c.field_of.ensures at c.in_ok-v.ensures.text_after) in
    omega (arith, read.within, read.same, c.well_formed)

pub returns-clause-lone : goal.returns-clause-lone
returns-clause-lone c =
    let a = c.args in
    let l = a.layout.now in
    let t = c.inside in
    let width = leaf-inside l.words.now a.«record».now l.page a.deps a.e a.e.name true a.at (length a.items.now) a.counts.now a.told a.text.now t.result t.ensures c.if-not-inside.false in
    rw (leaf-scalar l.words.now a.«record».now l.page a.deps a.e a.e.name true a.at (length a.items.now) a.counts.now a.told a.text.now (sym c.if-is.ensures))
    (lone-reads l.words.now a.«record».now l.page a.deps a.e a.e.name true a.at (length a.items.now) a.counts.now a.told
    a.text.now width c.requires c.in_ok-v.v (rw c.field_of.ensures at c.in_ok-v.ensures.result_value) c.read_part.new.text (rw c.field_of.ensures at c.in_ok-v.ensures.text_after)
    c.place_lone.result c.place_lone.ensures.counts_after c.place_lone.ensures.placed)

pub returns-clause-text_after : goal.returns-clause-text_after
returns-clause-text_after c =
    let a = c.args in
    let t = c.inside in
    text-scalar a.«record».now a.layout.now.page a.e a.at a.told a.text.now t.result t.ensures c.if-not-inside.false (sym c.if-is.ensures)
    (rw c.field_of.ensures at c.in_ok-v.ensures.text_after)
