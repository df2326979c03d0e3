-- The numbers that 01 gives to kinds, tags, absent options and elements' names.
use Rattle.std.specs.Prelude.{ℕ}

-- what a number below is: a word of an entry, and two of an item
abbrev Kind : Type 0
Kind = ℕ

abbrev Tag : Type 0
Tag = ℕ

abbrev Name : Type 0
Name = ℕ

-- "kind 0 Text 1 Int 2 Binary 3 Float 4 Hex 5 Bool 6 Pad 7 Decimal 8 Edited 9 Group"
abbrev pub kind_text : Kind
kind_text = 0

abbrev pub kind_int : Kind
kind_int = 1

abbrev pub kind_binary : Kind
kind_binary = 2

abbrev pub kind_float : Kind
kind_float = 3

abbrev pub kind_hex : Kind
kind_hex = 4

abbrev pub kind_bool : Kind
kind_bool = 5

abbrev pub kind_pad : Kind
kind_pad = 6

abbrev pub kind_decimal : Kind
kind_decimal = 7

abbrev pub kind_edited : Kind
kind_edited = 8

abbrev pub kind_group : Kind
kind_group = 9

-- "a scalar is Null, Text, Int, Decimal, Float or Bool (tags 0 to 5)"; "6 is List, 7 Struct"
abbrev pub tag_null : Tag
tag_null = 0

abbrev pub tag_text : Tag
tag_text = 1

abbrev pub tag_int : Tag
tag_int = 2

abbrev pub tag_decimal : Tag
tag_decimal = 3

abbrev pub tag_float : Tag
tag_float = 4

abbrev pub tag_bool : Tag
tag_bool = 5

abbrev pub tag_list : Tag
tag_list = 6

abbrev pub tag_struct : Tag
tag_struct = 7

-- "occurs and depending may be 4294967295, absent"; so in a layout's text "Numbers are below 4294967295."
abbrev pub absent : ℕ
absent = 4294967295

-- "name (65536 for list elements)"
abbrev pub element : Name
element = 65536

-- a record's bytes: "At most 65,536."
abbrev pub most : ℕ
most = 65536
