-- A refusal leaves the zeros that were put first, and else `store` puts the words and masks over their front.
use Rattle.std.proofs.lemmas.Result.{err_from_is_err_and}
use Rattle.layout_text.proofs.Answers.{refused_all, can_store, stored_all}
use Rattle.layout_text.proofs.read_layout.Goals as goal

pub returns-in_err-reading : goal.returns-in_err-reading
returns-in_err-reading c =
    let a = c.args in
    let p = err_from_is_err_and c.from_residual.result c.from_residual.ensures.1 in
    rw (p.1, p.2) (refused_all a.text.now a.words.now a.masks.now _ _ (c.fill.ensures.after (λ y q. q)) (c.fill-2.ensures.after (λ y q. q)) _ c.in_err-reading.ensures.value)

pub store-requires : goal.store-requires
store-requires c =
    let a = c.args in
    let q = c.in_ok-reading in
    let all = can_store a.text.now a.words.now a.masks.now _ _ (c.fill.ensures.after (λ y q. q)) (c.fill-2.ensures.after (λ y q. q)) q.reading q.ensures.value q.ensures.short in
    record {
      lasts = all.0;
      text_in_bounds = all.1.0;
      text_in_bounds_2 = all.1.1;
    }

pub returns : goal.returns
returns c =
    let a = c.args in
    let q = c.in_ok-reading in
    let s = c.store.ensures in
    stored_all a.text.now a.words.now a.masks.now _ _ (c.fill.ensures.after (λ y q. q)) (c.fill-2.ensures.after (λ y q. q)) q.reading q.ensures.value _ _ s.words_after s.masks_after
