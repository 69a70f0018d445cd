-- What Print prints of its three inputs: object, options and component. NULL is None here.
use Rattle.std.specs.Prelude.{ℕ, ◌+◌, ℤ, List, [], ◌∷◌, ◌++◌, Bool, true, false, ◌||◌, ◌==◌, Option, Some, None, Result, Ok, Err, codes, if◌then◌else◌}
use Rattle.std.specs.List.{list_all, list_any}
use Rattle.std.specs.Fmt.{signed_decimal}
use Rattle.dx_base.specs.declared.code.Code.{Code}
use Rattle.dx_base.specs.declared.code.Code.TheVariants.{BadArgument, Unsupported, NoComponent}
use Rattle.dx_base.specs.Array.{ArrayData}
use Rattle.dx_base.specs.Object.{Tree, PartList, array, text, field, group, composite, series, no_parts, part}
use Rattle.dx_base.specs.ObjectNames.{component, member}
use Rattle.dx_base.specs.Words.{quoted}
use Rattle.dx_objects.specs.Kinds.{text_of, array_of}
use Rattle.dx_print.specs.declared.detail.Detail.{Detail}
use Rattle.dx_print.specs.declared.detail.Shown.{Shown}
use Rattle.dx_print.specs.declared.detail.Shown.TheVariants.{NoItems, FewItems, AllItems}
use Rattle.dx_print.specs.declared.parts.Listing.{Listing}
use Rattle.dx_print.specs.declared.parts.Listing.TheVariants.{Components, Members, PlacedMembers, Attributes}
use Rattle.dx_print.specs.Header.{header, object_header}
use Rattle.dx_print.specs.ItemLines.{at_indent, few_items, all_items}

-- ---- what is asked for

-- `o` has no effect of its own, `r` asks for parts and attributes, `d` for items, and `D` for all items
abbrev pub letter_o : ℕ
letter_o = 111

abbrev pub letter_r : ℕ
letter_r = 114

abbrev pub letter_d : ℕ
letter_d = 100

abbrev pub letter_D : ℕ
letter_D = 68

abbrev pub is_option : ℕ → Bool
is_option b = (b == letter_o) || (b == letter_r) || (b == letter_d) || (b == letter_D)

abbrev pub has : ℕ → List ℕ → Bool
has letter letters = list_any (λ b. b == letter) letters

abbrev pub shown_by : Bool → Bool → Shown
shown_by true few = AllItems
shown_by false true = FewItems
shown_by false false = NoItems

-- the letters stand in any order and number, and there are no others
abbrev pub detail_of_letters : List ℕ → Result Detail Code
detail_of_letters letters =
    if list_all is_option letters then Ok (record { parts = has letter_r letters; items = shown_by (has letter_D letters) (has letter_d letters) })
    else Err Unsupported

abbrev pub detail_of_text : Option (List ℕ) → Result Detail Code
detail_of_text None = Err BadArgument
detail_of_text (Some letters) = detail_of_letters letters

-- options that are NULL are taken as `o`, and others are a text
abbrev pub detail_of : Option Tree → Result Detail Code
detail_of None = Ok (record { parts = false; items = NoItems })
detail_of (Some options) = detail_of_text (text_of options)

-- ---- which object

abbrev pub or_member : Option Tree → Option Tree → Option Tree
or_member (Some t) m = Some t
or_member None m = m

abbrev pub found : Option Tree → Result (Option Tree) Code
found None = Err NoComponent
found (Some t) = Ok (Some t)

-- the component of a field or the member of a group that has the name; NULL has none, and needs none
abbrev pub part_in : List ℕ → Option Tree → Result (Option Tree) Code
part_in name None = Ok None
part_in name (Some t) = found (or_member (component name t) (member name t))

-- a component that is asked for is a text
abbrev pub named : Option Tree → Option (List ℕ) → Result (Option Tree) Code
named object None = Err BadArgument
named object (Some name) = part_in name object

abbrev pub chosen : Option Tree → Option Tree → Result (Option Tree) Code
chosen object None = Ok object
chosen object (Some component_name) = named object (text_of component_name)

-- ---- what is printed

abbrev pub items_shown : Shown → ℕ → Option ArrayData → List ℕ
items_shown NoItems indent a = []
items_shown FewItems indent None = []
items_shown FewItems indent (Some a) = few_items indent a
items_shown AllItems indent None = []
items_shown AllItems indent (Some a) = all_items indent a

-- the header of an object, and its items if it is an array
abbrev pub own_text : Detail → ℕ → Tree → List ℕ
own_text d indent t = at_indent indent (object_header t) ++ items_shown d.items indent (array_of t)

abbrev pub behind_word : List ℕ → Option (List ℕ) → List ℕ
behind_word word None = word ++ codes ":"
behind_word word (Some name) = word ++ codes " " ++ quoted name ++ codes ":"

-- how a part is announced
abbrev pub label : Listing → Option (List ℕ) → ℤ → List ℕ
label Components name position = behind_word (codes "component") name
label Members name position = behind_word (codes "member") name
label PlacedMembers name position = codes "member at " ++ signed_decimal position ++ codes ":"
label Attributes name position = behind_word (codes "attribute") name

abbrev pub if_parts : Bool → List ℕ → List ℕ
if_parts true lines = lines
if_parts false lines = []

-- the text of an object at an indent: its own lines, and where parts are asked for those of its parts and then of its attributes
abbrev mutual
  pub text_at : Detail → ℕ → Tree → List ℕ
  text_at d indent (array a xs) = own_text d indent (array a xs) ++ if_parts d.parts (parts_text Attributes d indent xs)
  text_at d indent (text b xs) = own_text d indent (text b xs) ++ if_parts d.parts (parts_text Attributes d indent xs)
  text_at d indent (field ps xs) =
      own_text d indent (field ps xs) ++ if_parts d.parts (parts_text Components d indent ps ++ parts_text Attributes d indent xs)
  text_at d indent (group ps xs) =
      own_text d indent (group ps xs) ++ if_parts d.parts (parts_text Members d indent ps ++ parts_text Attributes d indent xs)
  text_at d indent (composite ps xs) =
      own_text d indent (composite ps xs) ++ if_parts d.parts (parts_text Members d indent ps ++ parts_text Attributes d indent xs)
  text_at d indent (series ps xs) =
      own_text d indent (series ps xs) ++ if_parts d.parts (parts_text PlacedMembers d indent ps ++ parts_text Attributes d indent xs)

  -- each part is announced two spaces further in, and stands four further in
  pub parts_text : Listing → Detail → ℕ → PartList → List ℕ
  parts_text listing d indent no_parts = []
  parts_text listing d indent (part n p t ps) =
      at_indent (indent + 2) (label listing n p) ++ text_at d (indent + 4) t ++ parts_text listing d indent ps

abbrev pub value_text : Detail → Option Tree → List ℕ
value_text d None = at_indent 0 (header None)
value_text d (Some t) = text_at d 0 t

abbrev pub printed_of : Detail → Result (Option Tree) Code → Result (List ℕ) Code
printed_of d (Err code) = Err code
printed_of d (Ok v) = Ok (value_text d v)

-- options are checked before the component
abbrev pub printed : Result Detail Code → Option Tree → Option Tree → Result (List ℕ) Code
printed (Err code) object component_name = Err code
printed (Ok d) object component_name = printed_of d (chosen object component_name)

-- a list that isn't of three values is no list of Print's inputs
abbrev pub print_of : List (Option Tree) → Result (List ℕ) Code
print_of (object ∷ options ∷ component_name ∷ []) = printed (detail_of options) object component_name
print_of _ = Err BadArgument
