-- What fits behind an execution: its links after what was set, and what an emptying leaves.
use Rattle.std.proofs.Common.{◌≡◌, ℕ, zero, suc, ◌+◌, ◌<◌, ◌≤◌, List, [], ◌∷◌, ◌++◌, length, cond, Bool, true, false, Option, Some, None, refl, sym, ap, subst, arith}
use Rattle.std.specs.Map.{remove_entry}
use Rattle.std.specs.BTreeMap.{insert_entry, is_at}
use Rattle.std.specs.Ordering.{match_ordering}
use Rattle.std.specs.declared.cmp.Ordering.{Ordering}
use Rattle.std.specs.declared.cmp.Ordering.TheVariants.{Less, Equal, Greater}
use Rattle.dx_tags.specs.declared.term.Term.{Term}
use Rattle.dx_tags.specs.declared.term.Term.TheVariants.{Held as HeldBy}
use Rattle.dx_tags.specs.Closed.{Head, HeldHead, HeldBelow, IsResultOf, head_at, heads_of}
use Rattle.dx_tags.specs.Whole.{is_file}
use Rattle.dx_tags.proofs.ClosedTerms.{head_unfolds}
use Rattle.dx_links.specs.declared.key.Key.{Key}
use Rattle.dx_links.specs.declared.held.Change.{Change}
use Rattle.dx_links.specs.Holding.{Holding}
use Rattle.dx_links.specs.LinkMap.{LinkMap, key_cmp, put_at, after}
use Rattle.dx_tags.specs.HeldTerms.{held_terms}
use Rattle.dx_tags.proofs.HeldTerms as emptied
use Rattle.dx_tags.proofs.HeldTerms.{held_length}
use Rattle.dx_links.specs.Emptied.{values_held, held_tag, front_held, all_held}
use Rattle.dx_getting.proofs.EmptyLaws.{held_exact}
use Rattle.dx_getting.specs.Bound.{BeginHeld}
use Rattle.dx_demand.specs.Terms.{IsValue, AreExact}
use Rattle.dx_looking.specs.Looking.{AllFit}
use Rattle.dx_engine.specs.Doing.{HoldingFits}
use Rattle.dx_engine.specs.Running.{ChangesFit}
use Rattle.dx_engine.specs.Leaving.{links_behind}

-- ---- after changes

ordered_fits : (terms : List Term) (o : Ordering) (k : Key) (h : Holding) (l : Key × Holding) (ls rest : LinkMap) → IsValue terms h.tag → AllFit terms (l ∷ ls) → AllFit terms rest → AllFit terms (match_ordering o ((k, h) ∷ l ∷ ls) ((l.0, h) ∷ ls) (l ∷ rest))
ordered_fits terms Less k h l ls rest v f q = (v, f)
ordered_fits terms Equal k h l ls rest v f q = (v, f.1)
ordered_fits terms Greater k h l ls rest v f q = (f.0, q)

inserted_fits : (terms : List Term) (links : LinkMap) (k : Key) (h : Holding) → IsValue terms h.tag → AllFit terms links → AllFit terms (insert_entry key_cmp links k h)
inserted_fits terms [] k h v f = (v, tt)
inserted_fits terms (l ∷ ls) k h v f = ordered_fits terms (key_cmp k l.0) k h l ls (insert_entry key_cmp ls k h) v f (inserted_fits terms ls k h v f.1)

left_fits : (terms : List Term) (b : Bool) (l : Key × Holding) (ls rest : LinkMap) → AllFit terms (l ∷ ls) → AllFit terms rest → AllFit terms (cond b ls (l ∷ rest))
left_fits terms true l ls rest f q = f.1
left_fits terms false l ls rest f q = (f.0, q)

removed_fits : (terms : List Term) (test : Key → Bool) (links : LinkMap) → AllFit terms links → AllFit terms (remove_entry test links)
removed_fits terms test [] f = tt
removed_fits terms test (l ∷ ls) f = left_fits terms (test l.0) l ls (remove_entry test ls) f (removed_fits terms test ls f.1)

put_fits : (terms : List Term) (links : LinkMap) (k : Key) (o : Option Holding) → HoldingFits terms o → AllFit terms links → AllFit terms (put_at links k o)
put_fits terms links k (Some h) v f = inserted_fits terms links k h v f
put_fits terms links k None v f = removed_fits terms (is_at (key_cmp k)) links f

after_fits : (terms : List Term) (links : LinkMap) (changes : List Change) → AllFit terms links → ChangesFit terms changes → AllFit terms (after links changes)
after_fits terms links [] f c = f
after_fits terms links (x ∷ xs) f c = after_fits terms (put_at links x.key x.held) xs (put_fits terms links x.key x.held c.0 f) c.1

pub behind_fits : (terms : List Term) (links : LinkMap) (failed : Bool) (changes : List Change) → AllFit terms links → ChangesFit terms changes → AllFit terms (links_behind links failed changes)
behind_fits terms links true changes f c = f
behind_fits terms links false changes f c = after_fits terms links changes f c

-- ---- what an emptying leaves

held_head : (n k : ℕ) → k < n → head_at (heads_of (held_terms n)) k ≡ HeldHead k
held_head n k h = head_unfolds (held_terms n) (held_exact n).formed k (HeldBy k) (emptied.held_at n k h)

held_value : (n k : ℕ) → k < n → IsValue (held_terms n) (held_tag k)
held_value n k h = record {
  fits = record {
    within = (let all = held_length n in omega (arith, all, h));
    result = subst (λ (x : Head). IsResultOf x 0) (sym (held_head n k h)) refl;
  };
  value = ap is_file (held_head n k h);
}

front_fits : (n m : ℕ) (links : LinkMap) → m + length links ≤ n → AllFit (held_terms n) (front_held (length links) m links)
front_fits n m [] h = tt
front_fits n m (l ∷ ls) h = (held_value n m (omega (arith, h)), front_fits n (suc m) ls (omega (arith, h)))

pub held_fits : (links : LinkMap) → AllFit (held_terms (length links)) (all_held links)
held_fits links = front_fits (length links) 0 links (omega arith)

below_snoc : (n k : ℕ) (ts : List Term) → k < n → HeldBelow n ts → HeldBelow n (ts ++ HeldBy k ∷ [])
below_snoc n k [] lt h = (lt, tt)
below_snoc n k (t ∷ ts) lt h = (h.0, below_snoc n k ts lt h.1)

front_below : (n k : ℕ) → k ≤ n → HeldBelow n (held_terms k)
front_below n zero le = tt
front_below n (suc k) le = below_snoc n k (held_terms k) (omega (arith, le)) (front_below n k (omega (arith, le)))

values_length : (links : LinkMap) → length (values_held links) ≡ length links
values_length [] = refl
values_length (l ∷ ls) = ap suc (values_length ls)

pub held_are_below : (links : LinkMap) → HeldBelow (length (values_held links)) (held_terms (length links))
held_are_below links = front_below (length (values_held links)) (length links) (let same = values_length links in omega arith)

pub held_are_exact : (n : ℕ) → AreExact (held_terms n)
held_are_exact n = let x = held_exact n in record { formed = x.formed; distinct = x.distinct; whole = x.whole }

pub begin_held : (n : ℕ) → BeginHeld n (held_terms n)
begin_held n k h = emptied.held_at n k h
