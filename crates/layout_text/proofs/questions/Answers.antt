-- Each question that fails refuses by its number (`page-fails` and on); a text that passes all is read (`all-pass`).
use Rattle.std.proofs.Common.{◌≡◌, ◌*◌, ◌&&◌, ◌∙◌, sym, true, false, leb, arith, le-leb}
use Rattle.std.proofs.lemmas.Bool.{lt-leb}
use borrow.Author.Tests.{not-true, not-false}
use Rattle.std.proofs.lemmas.Result.{err_from_is_err_and}
use Rattle.layout_text.proofs.Answers.{unlawful-is, page-fails, fine-fails, nesting-fails, room-fails, all-pass, reading-is, refusal-is, both-true, left-false, right-false}
use Rattle.layout_text.proofs.questions.Goals as goal
use Rattle.layout_text.proofs.questions.Goals.{then-found-gt512-via-then-found-gt512, then-found-gt512-via-else-found-gt512+then-found-gt1}
use Rattle.layout_text.proofs.questions.Goals.{then-words-found-via-then-words-found, then-words-found-via-else-words-found+then-masks-found}

pub returns-in_err-found-clause-value : goal.returns-in_err-found-clause-value
returns-in_err-found-clause-value c =
    let a = c.args in
    let p = err_from_is_err_and c.from_residual.result c.from_residual.ensures.1 in
    let e = c.in_err-found.ensures in
    rw (p.1, p.2, e.0) (refusal-is a.text.now a.words a.masks 17 (unlawful-is a.text.now a.words a.masks e.1) (λ z. absurd (omega (arith, z))))

pub returns-then-found-gt512-clause-value : goal.returns-then-found-gt512-clause-value
returns-then-found-gt512-clause-value c =
    let a = c.args in
    let j = c.in_ok-found.found in
    let p : (leb j.count 512 && leb j.page 1) ≡ false = elim c.then-found-gt512.branch [
      | then-found-gt512-via-then-found-gt512 w ↦ left-false (leb j.page 1) (lt-leb j.count 512 w.if-found-gt512.true)
      | then-found-gt512-via-else-found-gt512+then-found-gt1 w ↦ right-false (leb j.count 512) (lt-leb j.page 1 w.if-found-gt1.true)
    ] in
    refusal-is a.text.now a.words a.masks 1 (page-fails a.text.now a.words a.masks c.in_ok-found.found c.judge.new.spans c.judge.new.groups c.in_ok-found.ensures p) (λ z. absurd (omega (arith, z)))

pub returns-then-not-found-clause-value : goal.returns-then-not-found-clause-value
returns-then-not-found-clause-value c =
    let a = c.args in
    let j = c.in_ok-found.found in
    let p : (leb j.count 512 && leb j.page 1) ≡ true = both-true (le-leb j.count 512 c.if-found-gt512.false) (le-leb j.page 1 c.if-found-gt1.false) in
    refusal-is a.text.now a.words a.masks 2 (fine-fails a.text.now a.words a.masks c.in_ok-found.found c.judge.new.spans c.judge.new.groups c.in_ok-found.ensures p (not-true j.fine c.if-not-found.true)) (λ z. absurd (omega (arith, z)))

pub returns-then-not-nested-clause-value : goal.returns-then-not-nested-clause-value
returns-then-not-nested-clause-value c =
    let a = c.args in
    let j = c.in_ok-found.found in
    let p : (leb j.count 512 && leb j.page 1) ≡ true = both-true (le-leb j.count 512 c.if-found-gt512.false) (le-leb j.page 1 c.if-found-gt1.false) in
    refusal-is a.text.now a.words a.masks 3 (nesting-fails a.text.now a.words a.masks c.in_ok-found.found c.judge.new.spans c.judge.new.groups c.in_ok-found.ensures p (not-false j.fine c.if-not-found.false) (sym c.nested.ensures ∙ c.if-not-nested.true)) (λ z. absurd (omega (arith, z)))

pub returns-then-words-found-clause-value : goal.returns-then-words-found-clause-value
returns-then-words-found-clause-value c =
    let a = c.args in
    let j = c.in_ok-found.found in
    let p : (leb j.count 512 && leb j.page 1) ≡ true = both-true (le-leb j.count 512 c.if-found-gt512.false) (le-leb j.page 1 c.if-found-gt1.false) in
    let r : (leb (j.count * 12) a.words && leb j.masks a.masks) ≡ false = elim c.then-words-found.branch [
      | then-words-found-via-then-words-found w ↦ left-false (leb j.masks a.masks) (lt-leb (j.count * 12) a.words w.if-words-found.true)
      | then-words-found-via-else-words-found+then-masks-found w ↦ right-false (leb (j.count * 12) a.words) (lt-leb j.masks a.masks w.if-masks-found.true)
    ] in
    refusal-is a.text.now a.words a.masks 16 (room-fails a.text.now a.words a.masks c.in_ok-found.found c.judge.new.spans c.judge.new.groups c.in_ok-found.ensures p (not-false j.fine c.if-not-found.false) (sym c.nested.ensures ∙ c.if-not-nested.false) r) (λ z. absurd (omega (arith, z)))

pub returns-clause-value : goal.returns-clause-value
returns-clause-value c =
    let a = c.args in
    let j = c.in_ok-found.found in
    let p : (leb j.count 512 && leb j.page 1) ≡ true = both-true (le-leb j.count 512 c.if-found-gt512.false) (le-leb j.page 1 c.if-found-gt1.false) in
    let r : (leb (j.count * 12) a.words && leb j.masks a.masks) ≡ true = both-true (le-leb (j.count * 12) a.words c.if-words-found.false) (le-leb j.masks a.masks c.if-masks-found.false) in
    reading-is a.text.now a.words a.masks c.in_ok-found.found c.judge.new.spans c.judge.new.groups c.in_ok-found.ensures (all-pass a.text.now a.words a.masks c.in_ok-found.found c.judge.new.spans c.judge.new.groups c.in_ok-found.ensures p (not-false j.fine c.if-not-found.false) (sym c.nested.ensures ∙ c.if-not-nested.false) r)
