-- A layout that is refused and a record that is too long leave the buffers as they are, and of the rest `decode_record` says what the answer names.
use mathlib.Core.Path.{refl, sym, ap, ◌∙◌}
use Prim.Native.Nat.{ℕ}
use borrow.Author.Tests.{le-ltb}
use lib.ListN.{length, take, length-replicate}
use lib.Seq.{length-take-le}
use Rattle.zeros.proofs.Filled.{in-front}
use Rattle.codes.specs.declared.Refusal.TheVariants.{RecordLength}
use Rattle.std.proofs.lemmas.Result.{err_from_is_err_and}
use Rattle.codes.proofs.Refusals.{some_number}
use Rattle.walks.specs.Records.{most, refused, decode_record}
use Rattle.shown.specs.Shown.{bytes_in, more_in}
use Rattle.shown.proofs.Answers.{layout-refused, bytes-long, decoded-is, refused-reads, decoded-reads, number_at, call-is}
use Rattle.shown.proofs.read_both.Goals as goal

pub returns-in_err-read : goal.returns-in_err-read
returns-in_err-read c =
    let l = c.args.layout.now in
    let r = c.args.record in
    let z = c.requires.zeros in
    let n = number_at l _ _ _ _ _ _ _ _ c.in_err-read.ensures (length-replicate {A = ℕ} 6144 0) (length-replicate {A = ℕ} 65536 0) in
    let p = err_from_is_err_and c.from_residual.result c.from_residual.ensures.1 in
    rw (p.1, p.2)
    (refused-reads _ c.in_err-read.field-0.0 _ _ z.0 z.1
    (layout-refused l _ (bytes_in r) (more_in r) (le-ltb most (length l) c.requires.short) (λ y. some_number c.in_err-read.field-0.0 (n ∙ y)) ∙ ap refused (sym n)))

pub returns-in_err-record : goal.returns-in_err-record
returns-in_err-record c =
    let l = c.args.layout.now in
    let r = c.args.record in
    let z = c.requires.zeros in
    let n = number_at l _ _ _ _ _ _ _ _ c.in_ok-read.ensures (length-replicate {A = ℕ} 6144 0) (length-replicate {A = ℕ} 65536 0) in
    let p = err_from_is_err_and c.from_residual-in_err-record.result c.from_residual-in_err-record.ensures.1 in
    let w = c.in_err-record.ensures.err in
    rw (p.1, p.2, w.1) (refused-reads _ RecordLength _ _ z.0 z.1 (bytes-long l _ (bytes_in r) (more_in r) (le-ltb most (length l) c.requires.short) (sym n) w.0))

pub slice_bounds-words-end : goal.slice_bounds-words-end
slice_bounds-words-end c = let g = c.in_ok-read.ensures in (in-front _ _ _ _ g.layout_words g.layout_left).1

pub slice_bounds-layout-end : goal.slice_bounds-layout-end
slice_bounds-layout-end c = let g = c.in_ok-read.ensures in sym (length-take-le _ _ (in-front _ _ _ _ g.layout_words g.layout_left).1)

pub slice_bounds-masks-end : goal.slice_bounds-masks-end
slice_bounds-masks-end c = let g = c.in_ok-read.ensures in (in-front _ _ _ _ g.mask_bytes g.masks_left).1

pub slice_bounds-layout-end-2 : goal.slice_bounds-layout-end-2
slice_bounds-layout-end-2 c = let g = c.in_ok-read.ensures in sym (length-take-le _ _ (in-front _ _ _ _ g.mask_bytes g.masks_left).1)

pub returns : goal.returns
returns c =
    let l = c.args.layout.now in
    let r = c.args.record in
    let z = c.requires.zeros in
    let g = c.in_ok-read.ensures in
    let q = c.in_ok-read.read in
    let s = c.in_ok-record.record in
    let e = c.in_ok-record.ensures.ok in
    let n = number_at l _ _ _ _ _ _ _ _ g (length-replicate {A = ℕ} 6144 0) (length-replicate {A = ℕ} 65536 0) in
    let w = c.read_layout.new.words in
    let m = c.read_layout.new.masks in
    rw e.0
    (decoded-reads _ (λ i t k. decode_record (take q.words w) (take q.masks m) q.page s.now i t k) _ _ _ _ _ _ _ _ _ z.0 z.1 refl
    (decoded-is l _ s.now _ (le-ltb most (length l) c.requires.short) (sym n) (le-ltb most (length s.now) e.1) ∙ call-is l _ _ _ _ _ _ _ _ g refl s.now) c.decode_record.ensures)
