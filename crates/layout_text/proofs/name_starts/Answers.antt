-- The table is zeros where the text is refused, and else what `see_all` leaves with zeros behind (`table-cells`).
use Rattle.std.proofs.Common.{arith, ap, ◌∙◌, ℕ, List, [], length, get_or}
use Rattle.layout_text.proofs.Spellings.{table-names, table-count, table-cells, table-front, place_there, place_not, count-there, spelled_there, names_last, count-not, spelled_not, cells-not}
use Rattle.layout_text.proofs.name_starts.Goals as goal

pub see_all-requires : goal.see_all-requires
see_all-requires c = names_last c.args.text.now c.in-Ok.reading c.in-Ok.ensures.value c.in-Ok.ensures.short

pub returns-in-Ok : goal.returns-in-Ok
returns-in-Ok c =
    let t = c.args.text.now in
    let q = c.in-Ok in
    let s = c.see_all.ensures in record {
      value = table-count _ s.value s.starts_after s.firsts ∙ count-there t q.reading q.ensures.value;
      by_index = λ number. table-cells _ s.value s.starts_after s.firsts (length c.args.starts.now) (c.fill.ensures.after (λ y q. q)) number ∙ place_there t q.reading q.ensures.value number;
      in_front = λ number. table-front _ s.value s.starts_after s.firsts number ∙ place_there t q.reading q.ensures.value number;
      spells = λ number. ap (λ (l : List (List ℕ)). get_or l number []) (table-names _ s.value s.starts_after s.firsts) ∙ spelled_there t q.reading q.ensures.value number;
      few = omega (arith, s.value, s.firsts.few);
    }

pub returns-in-Err : goal.returns-in-Err
returns-in-Err c =
    let t = c.args.text.now in
    record {
      value = count-not t _ c.in-Err.ensures.value;
      by_index = cells-not t _ c.in-Err.ensures.value _ (length c.args.starts.now) (c.fill.ensures.after (λ y q. q));
      in_front = λ number. place_not t _ c.in-Err.ensures.value number;
      spells = λ number. spelled_not t _ c.in-Err.ensures.value number;
      few = omega arith;
    }
