-- Clauses without the offsets of their words.
use Rattle.std.proofs.Common.{◌≡◌, ℕ, List, map}
use Rattle.dx_native_lex.specs.declared.token.Named.{Named}
use Rattle.dx_native_grammar.specs.declared.clause.Attribute.{Attribute}
use Rattle.dx_native_grammar.specs.declared.clause.Body.{Body}
use Rattle.dx_native_grammar.specs.declared.clause.Body.TheVariants as body
use Rattle.dx_native_grammar.specs.declared.clause.Clause.{Clause}
use Rattle.dx_native_grammar.specs.declared.clause.Content.{Content}
use Rattle.dx_native_grammar.specs.declared.clause.Given.{Given}
use Rattle.dx_native_grammar.specs.declared.clause.Given.TheVariants as value
use Rattle.dx_native_grammar.specs.declared.clause.Part.{Part}

abbrev pub unplaced : List ℕ → Named
unplaced w = record { text = w; at = 0 }

abbrev pub erased_given : Given → Given
erased_given (value.Text b) = value.Text b
erased_given (value.Number z) = value.Number z
erased_given (value.Object r) = value.Object (unplaced r.text)

abbrev pub erased_attribute : Attribute → Attribute
erased_attribute a = record { name = a.name; value = erased_given a.value }

abbrev pub erased_part : Part → Part
erased_part p = record { name = p.name; position = p.position; target = unplaced p.target.text }

abbrev pub erased_body : Body → Body
erased_body (body.Array a) = body.Array a
erased_body (body.Text b) = body.Text b
erased_body (body.Parts k ps) = body.Parts k (map erased_part ps)

abbrev pub erased_content : Content → Content
erased_content c = record { body = erased_body c.body; attributes = map erased_attribute c.attributes }

abbrev pub erased_clause : Clause → Clause
erased_clause c = record { name = unplaced c.name.text; content = erased_content c.content }
