-- A getting whose calls were formed is the same, whatever is formed behind them.
use Rattle.std.specs.Prelude.{◌≡◌, List, true}
use Rattle.dx_tags.specs.Closed.{ValueTerm, CallTerm, ValueTerms}
use Rattle.dx_machine.specs.Machine.{FormedCall, Frame, State, get, get_all, site_of, attribute_of}
use Rattle.dx_machine.specs.Covered.{is_formed, IsCovered, AreCovered}

-- each call that was formed here has the same site and attribute there
pub record SameCalls (fs gs : List FormedCall) : Type 0 where
  pub sites : (c : CallTerm) → is_formed fs c ≡ true → site_of gs c ≡ site_of fs c
  pub attributes : (c : CallTerm) → is_formed fs c ≡ true → attribute_of gs c ≡ attribute_of fs c

abbrev pub with_formed : Frame → List FormedCall → Frame
with_formed k gs = record { around = k.around; links = k.links; formed = gs; budget = k.budget }

abbrev pub GetsAlike : Type 0
GetsAlike = (k : Frame) (gs : List FormedCall) → SameCalls k.formed gs → (t : ValueTerm) → IsCovered k.formed k.links t → (s : State) → get (with_formed k gs) t s ≡ get k t s

abbrev pub GetAllAlike : Type 0
GetAllAlike = (k : Frame) (gs : List FormedCall) → SameCalls k.formed gs → (ts : ValueTerms) → AreCovered k.formed k.links ts → (s : State) → get_all (with_formed k gs) ts s ≡ get_all k ts s
