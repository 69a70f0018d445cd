-- What is extracted is no larger than what it is extracted from, and members one after the other.
use Rattle.std.proofs.Common.{◌≡◌, ◌≤◌, ◌++◌, ℕ, ℤ, suc, List, [], ◌∷◌, Option, Some, None, Ok, Err, true, false, refl, sym, ap, arith, append_assoc}
use Rattle.std.specs.Prelude.{IfSome}
use Rattle.std.proofs.lemmas.Bool.Decides.{nat_tests}
use Rattle.std.specs.declared.rc.Rc.{Rc}
use Rattle.std.specs.declared.alloc.Global.{Global}
use Rattle.dx_base.specs.declared.code.Code.{Code}
use Rattle.dx_base.specs.declared.code.Code.TheVariants.{BadArgument, NoComponent}
use Rattle.dx_base.specs.Object.{Tree, PartList, array, text, field, group, composite, series, no_parts, part, parts, levels, count, size, deepest, total_count, total_size, part_count}
use Rattle.dx_base.specs.ObjectLimits.{all_fields, is_field, fits, IsLawful}
use Rattle.dx_base.specs.ObjectMembers.{placed, composite_or_group, with_members}
use Rattle.dx_base.specs.ObjectNames.{same_name, find, component}
use Rattle.dx_objects.specs.Members.{trees}
use Rattle.dx_objects.specs.Shown.{parts_of}
use Rattle.dx_objects.specs.declared.object.Part.{Part}
use Rattle.dx_objects.specs.declared.run_fail.RunFail.{RunFail}
use Rattle.dx_objects.specs.declared.run_fail.RunFail.TheVariants as fail
use Rattle.dx_object_laws.proofs.PutLaws.{by_bool}
use Rattle.dx_objects.proofs.LawfulLaws.{allowed_of}
use Rattle.dx_select.specs.Answered.{Answered, ◌>>=◌, or_refused, needed, GivesObject, GivesObjects}
use Rattle.dx_select.specs.Extract.{extracted, all_extracted}
use Rattle.dx_select.specs.Select.{has_members}
use Rattle.dx_select.proofs.Answering.{bound}

record IsNoLarger (u t : Tree) : Type 0 where
  pub levels : levels u ≤ levels t
  pub count : count u ≤ count t
  pub size : size u ≤ size t

record AreNoLarger (qs ps : PartList) : Type 0 where
  pub levels : deepest qs ≤ deepest ps
  pub count : total_count qs ≤ total_count ps
  pub size : total_size qs ≤ total_size ps
  pub parts : part_count qs ≡ part_count ps

record IsWithin (u : Tree) (ps : PartList) : Type 0 where
  pub levels : levels u ≤ deepest ps
  pub count : count u ≤ total_count ps
  pub size : size u ≤ total_size ps

-- what a name finds is one of the parts
found_within : (n : List ℕ) (ps : PartList) (u : Tree) → find n ps ≡ Some u → IsWithin u ps
found_within n no_parts u e = absurd (cc e)
found_within n (part m p t ps) u e =
    by_bool (same_name n m) _
    (λ s. let same : t ≡ u = (let is : Some t ≡ Some u = rw s at e in cc) in rw (← same) (record { levels = omega arith; count = omega arith; size = omega arith }))
    (λ s. let rest = found_within n ps u (rw s at e) in record { levels = omega (arith, rest.levels); count = omega (arith, rest.count); size = omega (arith, rest.size) })

found_of : (found : Option Tree) (u : Tree) → or_refused NoComponent found ≡ Ok u → found ≡ Some u
found_of None u e = absurd (cc e)
found_of (Some t) u e = cc

in_field : (ps xs : PartList) (u : Tree) → IsWithin u ps → IsNoLarger u (field ps xs)
in_field ps xs u h = record { levels = omega (arith, h.levels); count = omega (arith, h.count); size = omega (arith, h.size) }

in_group : (qs ps xs : PartList) → AreNoLarger qs ps → IsNoLarger (group qs xs) (group ps xs)
in_group qs ps xs h = record { levels = omega (arith, h.levels); count = omega (arith, h.count); size = omega (arith, h.size) }

in_composite : (qs ps xs : PartList) → AreNoLarger qs ps → IsNoLarger (composite_or_group qs xs) (composite ps xs)
in_composite qs ps xs h =
    by_bool (all_fields qs) _
    (λ e. rw e (record { levels = omega (arith, h.levels); count = omega (arith, h.count); size = omega (arith, h.size) }))
    (λ e. rw e (record { levels = omega (arith, h.levels); count = omega (arith, h.count); size = omega (arith, h.size) }))

in_series : (qs ps xs : PartList) → AreNoLarger qs ps → IsNoLarger (series qs xs) (series ps xs)
in_series qs ps xs h = record { levels = omega (arith, h.levels); count = omega (arith, h.count); size = omega (arith, h.size, h.parts) }

mutual
  no_larger : (n : List ℕ) (t u : Tree) → extracted n t ≡ Ok u → IsNoLarger u t
  no_larger n (array a xs) u e = absurd (cc e)
  no_larger n (text b xs) u e = absurd (cc e)
  no_larger n (field ps xs) u e = in_field ps xs u (found_within n ps u (found_of (find n ps) u e))
  no_larger n (group ps xs) u e =
      let ts = bound (all_extracted n ps) (λ ts. Ok (group (placed ps ts) xs)) u e in
      let same : group (placed ps ts.0) xs ≡ u = cc (ts.2) in
      rw (← same) (in_group (placed ps ts.0) ps xs (all_no_larger n ps ts.0 ts.1))
  no_larger n (composite ps xs) u e =
      let ts = bound (all_extracted n ps) (λ ts. Ok (composite_or_group (placed ps ts) xs)) u e in
      let same : composite_or_group (placed ps ts.0) xs ≡ u = cc (ts.2) in
      rw (← same) (in_composite (placed ps ts.0) ps xs (all_no_larger n ps ts.0 ts.1))
  no_larger n (series ps xs) u e =
      let ts = bound (all_extracted n ps) (λ ts. Ok (series (placed ps ts) xs)) u e in
      let same : series (placed ps ts.0) xs ≡ u = cc (ts.2) in
      rw (← same) (in_series (placed ps ts.0) ps xs (all_no_larger n ps ts.0 ts.1))

  all_no_larger : (n : List ℕ) (ps : PartList) (ts : List Tree) → all_extracted n ps ≡ Ok ts → AreNoLarger (placed ps ts) ps
  all_no_larger n no_parts ts e = record { levels = omega arith; count = omega arith; size = omega arith; parts = refl }
  all_no_larger n (part m p t ps) ts e =
      let u = bound (extracted n t) (λ u. all_extracted n ps >>= λ us. Ok (u ∷ us)) ts e in
      let us = bound (all_extracted n ps) (λ us. Ok (u.0 ∷ us)) ts u.2 in
      let same : u.0 ∷ us.0 ≡ ts = cc (us.2) in
      let first = no_larger n t u.0 u.1 in
      let rest = all_no_larger n ps us.0 us.1 in
      rw (← same) (record { levels = omega (arith, first.levels, rest.levels); count = omega (arith, first.count, rest.count); size = omega (arith, first.size, rest.size); parts = ap suc rest.parts })

fits_no_larger : (u t : Tree) → IsNoLarger u t → fits t ≡ true → fits u ≡ true
fits_no_larger u t h f =
    let a = h.levels in
    let b = h.count in
    let c = h.size in
    grind (arith, nat_tests)

-- a group or series gives itself with what its members give
pub extracted_members : (n : List ℕ) (t : Tree) (ts : List Tree) → has_members t ≡ true → all_extracted n (parts t) ≡ Ok ts → extracted n t ≡ needed (with_members ts t)
extracted_members n (array a xs) ts h e = absurd (cc h)
extracted_members n (text b xs) ts h e = absurd (cc h)
extracted_members n (field ps xs) ts h e = absurd (cc h)
extracted_members n (group ps xs) ts h e = rw e refl
extracted_members n (composite ps xs) ts h e = rw e refl
extracted_members n (series ps xs) ts h e = rw e refl

-- and refuses what the first of them refuses
pub extracted_fails : (n : List ℕ) (t : Tree) (code : Code) → has_members t ≡ true → all_extracted n (parts t) ≡ Err code → extracted n t ≡ Err code
extracted_fails n (array a xs) code h e = absurd (cc h)
extracted_fails n (text b xs) code h e = absurd (cc h)
extracted_fails n (field ps xs) code h e = absurd (cc h)
extracted_fails n (group ps xs) code h e = rw e refl
extracted_fails n (composite ps xs) code h e = rw e refl
extracted_fails n (series ps xs) code h e = rw e refl

-- what cuts the members short cuts the whole short
pub members_stop : (n : List ℕ) (t : Tree) (ps : List Part) (f : RunFail) → has_members t ≡ true → parts_of ps ≡ parts t → GivesObjects (all_extracted n (parts_of ps)) (Err f) → GivesObject (extracted n t) (Err f)
members_stop n t ps (fail.Code code) h e g = extracted_fails n t code h (rw (← e) g)
members_stop n t ps fail.Memory h e g = tt

fits_if : (made : Option Tree) (n : List ℕ) (t : Tree) → IsLawful t → extracted n t ≡ needed made → IfSome made (λ u. fits u ≡ true)
fits_if None n t h e = tt
fits_if (Some u) n t h e = fits_no_larger u t (no_larger n t u e) (allowed_of t h).limits

pub members_fit : (n : List ℕ) (t : Tree) (ts : List Tree) → IsLawful t → has_members t ≡ true → all_extracted n (parts t) ≡ Ok ts → IfSome (with_members ts t) (λ u. fits u ≡ true)
members_fit n t ts h m e = fits_if (with_members ts t) n t h (extracted_members n t ts m e)

-- ---- one member after the other

abbrev pub behind : List Tree → Answered (List Tree) → Answered (List Tree)
behind ts there = there >>= λ us. Ok (ts ++ us)

behind_more : (ts : List Tree) (u : Tree) (rest : Answered (List Tree)) → behind ts (rest >>= λ us. Ok (u ∷ us)) ≡ behind (ts ++ u ∷ []) rest
behind_more ts u (Ok us) = ap (λ vs. Ok vs) (sym (append_assoc ts (u ∷ []) us))
behind_more ts u (Err code) = refl

pub behind_none : (there : Answered (List Tree)) → behind [] there ≡ there
behind_none (Ok us) = refl
behind_none (Err code) = refl

pub all_next : (n : List ℕ) (ts : List Tree) (t u : Tree) (m : Option (List ℕ)) (p : ℤ) (ps : PartList) → extracted n t ≡ Ok u → behind ts (all_extracted n (part m p t ps)) ≡ behind (ts ++ u ∷ []) (all_extracted n ps)
all_next n ts t u m p ps e = rw e (behind_more ts u (all_extracted n ps))

pub all_fails : (n : List ℕ) (ts : List Tree) (t : Tree) (code : Code) (m : Option (List ℕ)) (p : ℤ) (ps : PartList) → extracted n t ≡ Err code → behind ts (all_extracted n (part m p t ps)) ≡ Err code
all_fails n ts t code m p ps e = rw e refl

pub trees_push : (os : List (Rc Tree Global)) (o : Rc Tree Global) → trees (os ++ o ∷ []) ≡ trees os ++ o.value ∷ []
trees_push [] o = refl
trees_push (x ∷ os) o = ap (λ l. x.value ∷ l) (trees_push os o)

-- ---- objects without members

pub extracted_none : (n : List ℕ) (t : Tree) → has_members t ≡ false → is_field t ≡ false → extracted n t ≡ Err BadArgument
extracted_none n (array a xs) h f = refl
extracted_none n (text b xs) h f = refl
extracted_none n (field ps xs) h f = absurd (cc f)
extracted_none n (group ps xs) h f = absurd (cc h)
extracted_none n (composite ps xs) h f = absurd (cc h)
extracted_none n (series ps xs) h f = absurd (cc h)

pub extracted_field : (n : List ℕ) (t : Tree) → is_field t ≡ true → extracted n t ≡ or_refused NoComponent (component n t)
extracted_field n (array a xs) f = absurd (cc f)
extracted_field n (text b xs) f = absurd (cc f)
extracted_field n (field ps xs) f = refl
extracted_field n (group ps xs) f = absurd (cc f)
extracted_field n (composite ps xs) f = absurd (cc f)
extracted_field n (series ps xs) f = absurd (cc f)

pub ruleset alone = (extracted_none, extracted_field)
