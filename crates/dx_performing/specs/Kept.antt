-- What the cache machine keeps between executions, and how an execution leaves it.
use Rattle.std.specs.Prelude.{ℕ, zero, suc, List, [], ◌∷◌, ◌++◌, map, length, Option, Some, None, option_map, Bool, nat_lt}
use Rattle.std.specs.Map.{lookup, remove_entry}
use Rattle.std.specs.BTreeMap.{insert_entry, is_at}
use Rattle.dx_base.specs.Object.{Tree as Object}
use Rattle.dx_objects.specs.Runs.{Values}
use Rattle.dx_tags.specs.Closed.{ValueTerm, HeldTerm, ValueTerms}
use Rattle.dx_tags.specs.Files.{FileMap}
use Rattle.dx_links.specs.declared.key.Key.{Key}
use Rattle.dx_links.specs.LinkMap.{key_cmp}
use Rattle.dx_machine.specs.Machine.{Cached}
use Rattle.dx_meaning.specs.Term.{term_at}
use Rattle.dx_performing.specs.Acts.{Act, Prints, Puts, Sets, Refuses}
use Rattle.dx_performing.specs.Execution.{Links, Current}

-- an object, and the term that denotes it
pub record Link : Type 0 where
  pub object : Object
  pub term : ValueTerm

-- keys with what they hold, in the order of the keys
abbrev pub LinkTerms : Type 0
LinkTerms = List (Key × Link)

-- the entries from the oldest, the terms formed since the last emptying, each once and a call as its first result, the links, the values held since then, and what was written
pub record Kept : Type 0 where
  pub entries : List Cached
  pub terms : List ValueTerm
  pub links : LinkTerms
  pub held : Values
  pub written : FileMap

-- when a session begins
abbrev pub new : Kept
new = record { entries = []; terms = []; links = []; held = []; written = [] }

abbrev pub link_in : LinkTerms → Key → Option Link
link_in links k = lookup (is_at (key_cmp k)) links

-- the links without their terms
abbrev pub objects_of : LinkTerms → Links
objects_of links = map (λ (l : Key × Link). (l.0, l.1.object)) links

abbrev pub current : Kept → Current
current k = record { links = objects_of k.links; written = k.written }

-- ---- Sets, with the terms of their objects

pub record SetTerm : Type 0 where
  pub key : Key
  pub link : Option Link

-- the object is the first argument of a Set
abbrev pub set_terms : Act → ValueTerms → List SetTerm
set_terms (Sets key v) ts = record { key = key; link = option_map (λ (o : Object). record { object = o; term = term_at ts 0 }) v } ∷ []
set_terms (Prints text) ts = []
set_terms (Puts name content) ts = []
set_terms (Refuses code) ts = []

abbrev pub put_term : LinkTerms → Key → Option Link → LinkTerms
put_term links k (Some l) = insert_entry key_cmp links k l
put_term links k None = remove_entry (is_at (key_cmp k)) links

abbrev pub after_set_terms : LinkTerms → List SetTerm → LinkTerms
after_set_terms links [] = links
after_set_terms links (s ∷ ss) = after_set_terms (put_term links s.key s.link) ss

-- ---- emptying

-- so many terms may be formed
abbrev pub max_terms : ℕ
max_terms = 65536

abbrev pub is_full : List ValueTerm → Bool
is_full ts = nat_lt max_terms (length ts)

-- each link has the term of its place
abbrev pub held_links : ℕ → LinkTerms → LinkTerms
held_links n [] = []
held_links n (l ∷ ls) = (l.0, record { object = l.1.object; term = HeldTerm n }) ∷ held_links (suc n) ls

-- the terms of so many held values
abbrev pub held_terms : ℕ → List ValueTerm
held_terms zero = []
held_terms (suc n) = held_terms n ++ HeldTerm n ∷ []

-- no entries, and the links' objects are held
abbrev pub emptied : Kept → Kept
emptied k = record {
  entries = [];
  terms = held_terms (length k.links);
  links = held_links 0 k.links;
  held = map (λ (l : Key × Link). Some l.1.object) k.links;
  written = k.written;
}
