-- What putting a slot into a chain, and taking one out, leaves.
use Rattle.std.specs.Prelude.{ℕ, List, Option, Some, None, slice_get, slice_set}
use Rattle.dx_cache.specs.declared.chains.Link.{Link}
use Rattle.dx_cache.specs.declared.chains.Ends.{Ends}

abbrev pub with_after : List Link → ℕ → Option ℕ → Option Link → List Link
with_after links i after None = links
with_after links i after (Some l) = slice_set links i (record { before = l.before; after = after })

-- the links with another slot after this one
abbrev pub set_after : List Link → ℕ → Option ℕ → List Link
set_after links i after = with_after links i after (slice_get links i)

abbrev pub with_before : List Link → ℕ → Option ℕ → Option Link → List Link
with_before links i before None = links
with_before links i before (Some l) = slice_set links i (record { before = before; after = l.after })

-- the links with another slot before this one
abbrev pub set_before : List Link → ℕ → Option ℕ → List Link
set_before links i before = with_before links i before (slice_get links i)

abbrev pub after_it : List Link → Option ℕ → Option ℕ → List Link
after_it links None after = links
after_it links (Some i) after = set_after links i after

abbrev pub before_it : List Link → Option ℕ → Option ℕ → List Link
before_it links None before = links
before_it links (Some i) before = set_before links i before

-- with slot i behind the last
abbrev pub attached : List Link → Option ℕ → ℕ → List Link
attached links last i = after_it (slice_set links i (record { before = last; after = None })) last (Some i)

abbrev pub first_unless : Option ℕ → ℕ → Option ℕ → Option ℕ
first_unless None i first = Some i
first_unless (Some l) i first = first

abbrev pub attached_ends : Ends → ℕ → Ends
attached_ends e i = record { first = first_unless e.last i e.first; last = Some i }

-- without the slot that has this link
abbrev pub detached : List Link → Link → List Link
detached links l = before_it (after_it links l.before l.after) l.after l.before

abbrev pub in_place_of : Option ℕ → Option ℕ → Option ℕ → Option ℕ
in_place_of None new old = new
in_place_of (Some i) new old = old

abbrev pub detached_ends : Ends → Link → Ends
detached_ends e l = record { first = in_place_of l.before l.after e.first; last = in_place_of l.after l.before e.last }
