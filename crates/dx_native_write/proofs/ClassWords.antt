-- The words for the class of an array.
use Rattle.std.proofs.Common.{◌≡◌, ◌∙◌, ◌++◌, ◌∷◌, [], ℕ, List, codes, length, ap, append_assoc, append-nil}
use Rattle.dx_base.specs.Array.{ArrayData, Class, plain, constant, regular, grid_positions, grid_connections, items, counts_of}
use Rattle.dx_base.specs.Words.{counts_behind}
use Rattle.dx_arrays.specs.Classes.{kind_of}
use Rattle.dx_arrays.specs.declared.array.ArrayClass.TheVariants as kind
use Rattle.dx_native_text.specs.Lines.{Word, bare, count_word}
use Rattle.dx_native_text.specs.Arrays.{class_words, head_words, data_words, type_words, shape_words}
use Rattle.dx_native_write.specs.Spelled.{words_behind, head_behind}
use Rattle.dx_native_write.proofs.Spelling.{words_append, counts_are, type_is, shape_is}

head_is : (a : ArrayData) (rest : List Word) →
    words_behind (head_words a.elem a.extents (items a) rest) ≡ head_behind a ++ words_behind rest
unfolding head_behind
head_is a rest =
    rw (
      words_append (type_words a.elem) (bare (codes "rank") ∷ count_word (length a.extents) ∷ (shape_words a.extents ++ bare (codes "items") ∷ count_word (items a) ∷ rest)),
      type_is a.elem,
      words_append (shape_words a.extents) (bare (codes "items") ∷ count_word (items a) ∷ rest),
      shape_is a.extents,
    )
    (simp append_assoc)

pub plain_by : (a : ArrayData) (c : Class) → kind_of c ≡ kind.Plain → words_behind (class_words a c) ≡ codes " array" ++ (head_behind a ++ codes " data follows")
plain_by a (plain vs) e = ap (λ (text : List ℕ). codes " array" ++ text) (head_is a data_words)
plain_by a _ e = cc

pub constant_by : (a : ArrayData) (c : Class) → kind_of c ≡ kind.Constant → words_behind (class_words a c) ≡ codes " constantarray" ++ (head_behind a ++ codes " data follows")
constant_by a (constant n v) e = ap (λ (text : List ℕ). codes " constantarray" ++ text) (head_is a data_words)
constant_by a _ e = cc

pub regular_by : (a : ArrayData) (c : Class) → kind_of c ≡ kind.Regular → words_behind (class_words a c) ≡ codes " regulararray" ++ head_behind a
regular_by a (regular n o d) e = ap (λ (text : List ℕ). codes " regulararray" ++ text) (head_is a [] ∙ append-nil (head_behind a))
regular_by a _ e = cc

pub positions_by : (a : ArrayData) (c : Class) → kind_of c ≡ kind.GridPositions → words_behind (class_words a c) ≡ codes " gridpositions counts" ++ counts_behind (counts_of c)
positions_by a (grid_positions cs o ds) e = ap (λ (text : List ℕ). codes " gridpositions counts" ++ text) (counts_are cs)
positions_by a _ e = cc

pub connections_by : (a : ArrayData) (c : Class) → kind_of c ≡ kind.GridConnections → words_behind (class_words a c) ≡ codes " gridconnections counts" ++ counts_behind (counts_of c)
connections_by a (grid_connections cs) e = ap (λ (text : List ℕ). codes " gridconnections counts" ++ text) (counts_are cs)
connections_by a _ e = cc

pub ruleset class_texts = (plain_by, constant_by, regular_by, positions_by, connections_by)
