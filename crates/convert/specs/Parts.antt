-- What the parts of the call leave: the record just written judged, and a list rewritten. Only inner functions cite this file.
use Rattle.std.specs.Prelude.{◌≡◌, List, ℕ, ℤ, pos, length, replicate}
use Rattle.walks.specs.Records.{Decoded, number_of, Encoded, RecordWritten}
use Rattle.convert.specs.Calls.{kept_in, back_asks, Cleared}

-- what reading back gives, judged against a list, with the buffers cleared
pub record BackJudged (back : Decoded) (items text : List ℕ) (number : ℕ) (back_items back_items' back_text back_text' : List ℕ) (counts counts' : List ℤ) : Type 0 where
  pub numbered : number ≡ back_asks (number_of back) (kept_in items text back)
  pub back_items_left : Cleared back_items back_items'
  pub back_text_left : Cleared back_text back_text'
  pub counts_left : counts' ≡ replicate (length counts) (pos 0)

pub record ListRewritten (e : Encoded) (number bytes : ℕ) (r r' back_items back_items' back_text back_text' : List ℕ) (counts counts' : List ℤ) : Type 0 where
  pub record_written : RecordWritten e number bytes r r' counts counts'
  pub back_items_left : Cleared back_items back_items'
  pub back_text_left : Cleared back_text back_text'
