-- The words that the enums of kinds and tags stand for, and the enum of each word.
use Rattle.std.specs.Prelude.{ℕ, Result, Ok, Err, cond, ◌==◌}
use Rattle.codes.specs.Codes.{kind_text, kind_int, kind_binary, kind_float, kind_hex, kind_bool, kind_pad, kind_decimal, kind_edited, kind_group}
use Rattle.codes.specs.Codes.{tag_null, tag_text, tag_int, tag_decimal, tag_float, tag_bool, tag_list, tag_struct}
use Rattle.codes.specs.declared.Kind.{Kind}
use Rattle.codes.specs.declared.Kind.TheVariants as kinds
use Rattle.codes.specs.declared.Tag.{Tag}
use Rattle.codes.specs.declared.Tag.TheVariants as tags
use Rattle.codes.specs.declared.Refusal.{Refusal}
use Rattle.codes.specs.declared.Refusal.TheVariants.{EntryWords, IllFormedList}

abbrev pub word_of_kind : Kind → ℕ
word_of_kind kinds.Text = kind_text
word_of_kind kinds.Int = kind_int
word_of_kind kinds.Binary = kind_binary
word_of_kind kinds.Float = kind_float
word_of_kind kinds.Hex = kind_hex
word_of_kind kinds.Bool = kind_bool
word_of_kind kinds.Pad = kind_pad
word_of_kind kinds.Decimal = kind_decimal
word_of_kind kinds.Edited = kind_edited
word_of_kind kinds.Group = kind_group

-- a word that is no kind's is refused as question 2 does: "Every entry's words in range?"
abbrev pub kind_in : ℕ → Result Kind Refusal
kind_in w =
    cond (w == kind_text) (Ok kinds.Text)
    (cond (w == kind_int) (Ok kinds.Int)
    (cond (w == kind_binary) (Ok kinds.Binary)
    (cond (w == kind_float) (Ok kinds.Float)
    (cond (w == kind_hex) (Ok kinds.Hex)
    (cond (w == kind_bool) (Ok kinds.Bool)
    (cond (w == kind_pad) (Ok kinds.Pad)
    (cond (w == kind_decimal) (Ok kinds.Decimal)
    (cond (w == kind_edited) (Ok kinds.Edited)
    (cond (w == kind_group) (Ok kinds.Group)
    (Err EntryWords))))))))))

abbrev pub word_of_tag : Tag → ℕ
word_of_tag tags.Null = tag_null
word_of_tag tags.Text = tag_text
word_of_tag tags.Int = tag_int
word_of_tag tags.Decimal = tag_decimal
word_of_tag tags.Float = tag_float
word_of_tag tags.Bool = tag_bool
word_of_tag tags.List = tag_list
word_of_tag tags.Struct = tag_struct

-- a word that is no tag's is refused as question 11 does: "list well formed?"
abbrev pub tag_in : ℕ → Result Tag Refusal
tag_in w =
    cond (w == tag_null) (Ok tags.Null)
    (cond (w == tag_text) (Ok tags.Text)
    (cond (w == tag_int) (Ok tags.Int)
    (cond (w == tag_decimal) (Ok tags.Decimal)
    (cond (w == tag_float) (Ok tags.Float)
    (cond (w == tag_bool) (Ok tags.Bool)
    (cond (w == tag_list) (Ok tags.List)
    (cond (w == tag_struct) (Ok tags.Struct)
    (Err IllFormedList))))))))
