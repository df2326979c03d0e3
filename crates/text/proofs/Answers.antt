-- What the answer of display_scalar tells of a scalar's text.
use Rattle.std.proofs.Common.{◌≡◌, refl, ap, ◌∙◌, ℕ, ◌+◌, ◌≤◌, List, length, drop, arith, length-append}
use Rattle.value.specs.Answer.{refused, given}
use Rattle.text.specs.Shown.{Shows, shows, none, answer_of, shown_in}

-- the text lies inside the array
pub room-told : (s : Shows) (n : ℕ) (out last : List ℕ) → given n ≡ answer_of s → last ≡ shown_in s out → n ≤ length last
room-told (shows t) n out last e q =
    let l : n ≡ length t = cc in
    let k : length last ≡ length t + length (drop (length t) out) = ap length q ∙ length-append t (drop (length t) out) in
    omega arith
room-told none n out last e q = let z : ◌≡◌ {A = ℕ} 0 1 = cc in absurd (omega arith)

pub none_told : (s : Shows) → refused 13 ≡ answer_of s → s ≡ none
none_told (shows t) e = let z : ◌≡◌ {A = ℕ} 0 1 = cc in absurd (omega arith)
none_told none e = refl
