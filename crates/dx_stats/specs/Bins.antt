-- Bins of equal width over the whole numbers from one to another, and what falls into them.
use Rattle.std.specs.Prelude.{ℕ, ◌+◌, ◌-◌, ◌*◌, ◌/◌, ◌<◌, ◌≤◌, ℤ, pos, negsuc, ◌+ℤ◌, ◌-ℤ◌, ◌≤ℤ◌, int_le, int_lt, unsigned_abs, List, length, map, filter, find, count_by, Bool, ◌&&◌, ◌==◌, nat_le, nat_lt, Option}
use Rattle.std.specs.List.{range_with_len}
use Rattle.std.specs.Int.{div_ceil}
use Rattle.dx_stats.specs.declared.bins.Bins.{Bins}

-- how many whole numbers there are from the least to the greatest
abbrev pub span : Bins → ℕ
span b = unsigned_abs (b.high -ℤ b.low) + 1

-- a number that counts
abbrev pub is_between : ℤ → ℤ → ℤ → Bool
is_between low high v = int_le low v && int_le v high

abbrev pub is_counted : Bins → ℤ → Bool
is_counted b v = is_between b.low b.high v

abbrev pub counted : Bins → List ℤ → List ℤ
counted b vs = filter (is_counted b) vs

-- the bin of a number that counts: of its distance from the least, times the bins, divided by the span, the whole part
abbrev pub bin_of : Bins → ℤ → ℕ
bin_of b v = unsigned_abs (v -ℤ b.low) * b.count / span b

-- how many fall into bin k
abbrev pub falls_in : Bins → ℕ → ℤ → Bool
falls_in b k v = is_counted b v && (bin_of b v == k)

abbrev pub count_in : Bins → List ℤ → ℕ → ℕ
count_in b vs k = count_by (falls_in b k) vs

abbrev pub bin_counts : Bins → List ℤ → List ℤ
bin_counts b vs = map (λ k. pos (count_in b vs k)) (range_with_len 0 b.count)

-- where bin k begins: the least whole number, of those from the least one on, that falls into no bin before it, and behind
-- the last bin the number that follows the greatest one; it is the least one plus k spans divided by the bins, rounded up
abbrev pub border : Bins → ℕ → ℤ
border b k = b.low +ℤ pos (div_ceil (span b * k) b.count)

abbrev pub borders : Bins → List ℤ
borders b = map (border b) (range_with_len 0 (b.count + 1))

-- v has the rank r among some numbers in ascending order, counted from 0: at most r of them are below it, and more than r
-- aren't above it
abbrev pub has_rank : ℕ → List ℤ → ℤ → Bool
has_rank r vs v = nat_le (count_by (λ w. int_lt w v) vs) r && nat_lt r (count_by (λ w. int_le w v) vs)

-- the one of them that has the rank, if they are more than so many
abbrev pub item_of_rank : ℕ → List ℤ → Option ℤ
item_of_rank r vs = find (has_rank r vs) vs

abbrev pub middle_rank : ℕ → ℕ
middle_rank m = (m - 1) / 2

-- the lower of the two in the middle, where they are an even number
unfoldable pub middle : List ℤ → Option ℤ
middle vs = item_of_rank (middle_rank (length vs)) vs

-- the median of those that count
abbrev pub median : Bins → List ℤ → Option ℤ
median b vs = middle (counted b vs)

-- a slope, which tells the bin of a number without a division: 2^66 times the bins, divided by the span, and a little more
abbrev pub scale : ℕ
scale = 73786976294838206464

pub record IsSlope (b : Bins) (slope : ℕ) : Type 0 where
  pub low : b.count * scale ≤ slope * span b
  pub high : slope * span b ≤ b.count * scale + span b
  pub few : slope ≤ 4835703278458516698824705

-- bins that can be: some, no more than 65,536, between two numbers that some type of values holds
pub record AreBins (b : Bins) : Type 0 where
  pub some : 0 < b.count
  pub few : b.count ≤ 65536
  pub order : b.low ≤ℤ b.high
  pub low : negsuc 2147483647 ≤ℤ b.low
  pub high : b.high ≤ℤ pos 4294967295
