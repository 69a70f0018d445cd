-- Of links, getting asks alone which results of calls are among their terms.
use Rattle.std.specs.Prelude.{◌≡◌, ℕ, List}
use Rattle.dx_tags.specs.Closed.{ValueTerm, ResultTerm, CallTerm, ValueTerms}
use Rattle.dx_links.specs.Getting.{has_value}
use Rattle.dx_machine.specs.Machine.{FormedCall, Frame, State, get, get_all}
use Rattle.dx_machine.specs.Covered.{IsCovered, AreCovered}
use Rattle.dx_performing.specs.Resuming.{is_ready}

-- terms among which the same results of calls are
abbrev pub SameResults : List ValueTerm → List ValueTerm → Type 0
SameResults links links' = (result : ℕ) (c : CallTerm) → has_value links' (ResultTerm result c) ≡ has_value links (ResultTerm result c)

-- two frames whose links have the same results of calls as terms, in whatever order and however often
pub record SameLinks (k k' : Frame) : Type 0 where
  pub around : k'.around ≡ k.around
  pub links : SameResults k.links k'.links
  pub formed : k'.formed ≡ k.formed
  pub budget : k'.budget ≡ k.budget

abbrev pub LinksAlike : Type 0
LinksAlike = (k k' : Frame) → SameLinks k k' → (t : ValueTerm) (s : State) → get k' t s ≡ get k t s

abbrev pub AllLinksAlike : Type 0
AllLinksAlike = (k k' : Frame) → SameLinks k k' → (ts : ValueTerms) (s : State) → get_all k' ts s ≡ get_all k ts s

abbrev pub ReadyAlike : Type 0
ReadyAlike = (k k' : Frame) → SameLinks k k' → (t : ValueTerm) (s : State) → is_ready k' s t ≡ is_ready k s t

-- what getting can reach was formed, by whichever of two lists of links with the same results of calls
abbrev pub CoveredAlike : Type 0
CoveredAlike = (formed : List FormedCall) (links links' : List ValueTerm) → SameResults links links' → (t : ValueTerm) → IsCovered formed links t → IsCovered formed links' t

abbrev pub AllCoveredAlike : Type 0
AllCoveredAlike = (formed : List FormedCall) (links links' : List ValueTerm) → SameResults links links' → (ts : ValueTerms) → AreCovered formed links ts → AreCovered formed links' ts
