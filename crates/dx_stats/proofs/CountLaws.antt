-- The counts of the bins, number by number.
use Rattle.std.proofs.Common.{◌≡◌, ℕ, ◌+◌, ◌<◌, ◌≤◌, ℤ, pos, ◌+ℤ◌, ◌-ℤ◌, ◌≤ℤ◌, rules, List, [], ◌∷◌, length, take, get_or, set, replicate, Bool, true, false, ◌&&◌, ◌==◌, refl, sym, ap, ◌∙◌, arith, ◌≢◌, to_z, of_z, w64, get_or-set_same, get_or-set_other, inl, inr}
use Rattle.std.specs.Prelude.{unsigned_abs}
use Rattle.std.specs.List.{All}
use Rattle.std.proofs.lemmas.Int.{ints}
use Rattle.std.proofs.lemmas.Bool.{cases_lt}
use Rattle.std.proofs.lemmas.Bool.Decides.{nat_tests}
use Rattle.std.proofs.Math.ListN.{length-set}
use Rattle.std.proofs.lemmas.List.{take_all, length-take-le, length-replicate, get_or-replicate, get_or_default}
use Rattle.std.proofs.lemmas.List.Sums.{count_by_more_yes, count_by_more_no, count_by-le-length}
use Rattle.std.proofs.lemmas.List.FromFn.{fill_by_all}
use Rattle.dx_stats.specs.declared.bins.Bins.{Bins}
use Rattle.dx_stats.specs.Bins.{AreBins, span, is_counted, bin_of, falls_in, count_in, bin_counts}
use Rattle.dx_stats.specs.Tally.{tallied, tallied_if}
use Rattle.dx_stats.proofs.BinsLaws.{distance_few, bin_below}

-- these are the counts of these numbers
pub record AreCounts (b : Bins) (vs : List ℤ) (counts : List ℤ) : Type 0 where
  pub len : length counts ≡ b.count
  pub each : (k : ℕ) → k < b.count → get_or counts k (pos 0) ≡ pos (count_in b vs k)

pub counts_are : (b : Bins) (vs counts : List ℤ) → AreCounts b vs counts → counts ≡ bin_counts b vs
counts_are b vs counts a = fill_by_all (λ k. pos (count_in b vs k)) counts b.count (pos 0) a.len a.each

other_lt : (a k : ℕ) → a < k → (a == k) ≡ false
other_lt a k h = grind (arith, nat_tests)

other_gt : (a k : ℕ) → k < a → (a == k) ≡ false
other_gt a k h = grind (arith, nat_tests)

same_one : (a k : ℕ) → a ≡ k → (a == k) ≡ true
same_one a k h = grind (arith, nat_tests)

and_false : (a : Bool) → (a && false) ≡ false
and_false true = refl
and_false false = refl

-- a number that counts falls into one bin
module _ (b : Bins) (vs : List ℤ) (i : ℕ) (there : i < length vs) where
  abbrev v : ℤ
  v = get_or vs i (pos 0)

  more_yes : (k : ℕ) → falls_in b k v ≡ true → count_in b (take (i + 1) vs) k ≡ count_in b (take i vs) k + 1
  more_yes k h = count_by_more_yes (falls_in b k) vs i (pos 0) there h

  more_no : (k : ℕ) → falls_in b k v ≡ false → count_in b (take (i + 1) vs) k ≡ count_in b (take i vs) k
  more_no k h = count_by_more_no (falls_in b k) vs i (pos 0) there h

  pub uncounted_step : (counts : List ℤ) → is_counted b v ≡ false → AreCounts b (take i vs) counts → AreCounts b (take (i + 1) vs) counts
  uncounted_step counts off a = record {
    len = a.len;
    each = λ k h. a.each k h ∙ sym (ap pos (more_no k (ap (λ t. t && (bin_of b v == k)) off)));
  }

  fall_here : is_counted b v ≡ true → (k : ℕ) → bin_of b v ≡ k → falls_in b k v ≡ true
  fall_here on k e = ap (λ t. t && (bin_of b v == k)) on ∙ same_one (bin_of b v) k e

  fall_elsewhere : (k : ℕ) → (bin_of b v == k) ≡ false → falls_in b k v ≡ false
  fall_elsewhere k e = ap (λ t. is_counted b v && t) e ∙ and_false (is_counted b v)

  pub counted_step : (counts : List ℤ) (bin : ℕ) → is_counted b v ≡ true → bin ≡ bin_of b v → bin < b.count → AreCounts b (take i vs) counts → AreCounts b (take (i + 1) vs) (set counts bin (get_or counts bin (pos 0) +ℤ pos 1))
  counted_step counts bin on e low a =
      let within : bin < length counts = omega (arith, a.len) in
      record {
        len = simp length-set a.len;
        each = λ k h. elim (cases_lt k bin) [
          | inl less ↦
              let ne : k ≢ bin = omega arith in
              rw get_or-set_other (a.each k h) ∙ sym (ap pos (more_no k (fall_elsewhere k (other_gt (bin_of b v) k (omega (arith, e))))))
          | inr notless ↦ elim (cases_lt bin k) [
            | inl less ↦
                let ne : k ≢ bin = omega arith in
                rw get_or-set_other (a.each k h) ∙ sym (ap pos (more_no k (fall_elsewhere k (other_lt (bin_of b v) k (omega (arith, e))))))
            | inr notmore ↦
                let same : k ≡ bin = omega arith in
                let there_k : k < length counts = omega (arith, within) in
                let here = fall_here on k (sym e ∙ sym same) in
                rw (← same) (rw get_or-set_same (ap (λ z. z +ℤ pos 1) (a.each k h) ∙ sym (ap pos (more_yes k here))))
          ]
        ];
      }

  tally_by : (t : Bool) (counts after : List ℤ) → AreBins b → is_counted b v ≡ t → after ≡ tallied_if t b v counts → AreCounts b (take i vs) counts → AreCounts b (take (i + 1) vs) after
  tally_by true counts after bins on e a =
      let near = distance_few b v bins (search rules) in
      let low = bin_below (unsigned_abs (v -ℤ b.low)) b.count (span b) near bins.some in
      rw e (counted_step counts (bin_of b v) on refl low a)
  tally_by false counts after bins off e a = rw e (uncounted_step counts off a)

  pub tally_step : (counts after : List ℤ) → AreBins b → after ≡ tallied b v counts → AreCounts b (take i vs) counts → AreCounts b (take (i + 1) vs) after
  tally_step counts after bins e a = tally_by (is_counted b v) counts after bins refl e a

-- a count is no more than the numbers
pub count_few : (b : Bins) (vs counts : List ℤ) (i k : ℕ) → AreCounts b (take i vs) counts → k < b.count → i ≤ length vs → length vs ≤ 16777216 → get_or counts k (pos 0) ≤ℤ pos 16777216
count_few b vs counts i k a low le few =
    let most = count_by-le-length (falls_in b k) (take i vs) in
    let len : length (take i vs) ≡ i = length-take-le i vs le in
    let is = a.each k low in
    omega (arith, ints, most, len, is)

none_of : (b : Bins) (vs : List ℤ) (k : ℕ) → pos 0 ≡ pos (count_in b (take 0 vs) k)
none_of b [] k = refl
none_of b (v ∷ vs) k = refl

pub counts_few : (b : Bins) (vs counts : List ℤ) (i : ℕ) → AreCounts b (take i vs) counts → i ≤ length vs → length vs ≤ 16777216 → All (λ n. n ≤ℤ pos 16777216) counts
counts_few b vs counts i a le few k d h =
    let low : k < b.count = omega (arith, a.len) in
    let same : get_or counts k d ≡ get_or counts k (pos 0) = get_or_default counts k d (pos 0) h in
    rw same (count_few b vs counts i k a low le few)

pub counts_some : (b : Bins) (vs counts : List ℤ) (i : ℕ) → AreCounts b (take i vs) counts → All (λ n. pos 0 ≤ℤ n) counts
counts_some b vs counts i a k d h =
    let low : k < b.count = omega (arith, a.len) in
    let same : get_or counts k d ≡ get_or counts k (pos 0) = get_or_default counts k d (pos 0) h in
    rw (same, a.each k low) (omega (arith, ints))

no_counts_of : (b : Bins) (vs : List ℤ) → AreCounts b (take 0 vs) (replicate b.count (pos 0))
no_counts_of b vs = record { len = length-replicate b.count (pos 0); each = λ k h. get_or-replicate b.count k (pos 0) (pos 0) h ∙ none_of b vs k }

pub no_counts : (b : Bins) (vs counts : List ℤ) → counts ≡ replicate b.count (pos 0) → AreCounts b (take 0 vs) counts
no_counts b vs counts e = rw e (no_counts_of b vs)

-- of all numbers
pub all_counts : (b : Bins) (vs : List ℤ) (i : ℕ) (counts : List ℤ) → length vs ≤ i → AreCounts b (take i vs) counts → counts ≡ bin_counts b vs
all_counts b vs i counts h a = counts_are b vs counts (rw (take_all i vs h) at a)

by_test : (t : Bool) (b : Bins) (v : ℤ) (counts : List ℤ) (bin : ℕ) → t ≡ true → bin ≡ bin_of b v → set counts bin (get_or counts bin (pos 0) +ℤ pos 1) ≡ tallied_if t b v counts
by_test t b v counts bin on e = rw (on, e) refl

-- a count that is one more in its place
pub tallied_is : (b : Bins) (v : ℤ) (counts : List ℤ) (bin : ℕ) (x : ℤ) → is_counted b v ≡ true → bin ≡ bin_of b v → bin < length counts → All (λ n. pos 0 ≤ℤ n) counts → All (λ n. n ≤ℤ pos 16777216) counts → x ≡ get_or counts bin x →
    set counts bin (to_z w64 (of_z w64 (to_z w64 (of_z w64 x) +ℤ pos 1))) ≡ tallied b v counts
tallied_is b v counts bin x on e low some few item =
    let at : x ≡ get_or counts bin (pos 0) = item ∙ get_or_default counts bin x (pos 0) low in
    let least : pos 0 ≤ℤ x = rw at (some bin (pos 0) low) in
    let most : x ≤ℤ pos 16777216 = rw at (few bin (pos 0) low) in
    let next : to_z w64 (of_z w64 (to_z w64 (of_z w64 x) +ℤ pos 1)) ≡ x +ℤ pos 1 = omega (arith, ints) in
    ap (set counts bin) (next ∙ ap (λ z. z +ℤ pos 1) at) ∙ by_test (is_counted b v) b v counts bin on e
