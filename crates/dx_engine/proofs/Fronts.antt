-- Fronts of the runs that are told.
use Rattle.std.proofs.Common.{◌≡◌, List, [], ◌∷◌, ◌++◌, Bool, true, refl, sym, ap, ◌∙◌, subst, append_assoc, append-nil}
use Rattle.dx_io.specs.Devices.{Grows}
use Rattle.dx_machine.specs.Machine.{Task, reads_in}
use Rattle.dx_getting.specs.Told.{Told, Adds, AddsSome, IsNext}
use Rattle.dx_engine.specs.Fronts.{AddsFront}

-- all of these are a front of these, and no further name was read
pub front_all : (ahead : Bool) (base now : Told) (tasks more whole : List Task) → Adds base now tasks → whole ≡ tasks ++ more → AddsFront ahead base now whole
front_all ahead base now tasks more whole h w = record {
  some = record {
    front = tasks;
    rest = more;
    whole = w;
    done = h.done;
    next = [];
    is_next = tt;
    asked = subst (λ ts. Grows base.asked now.asked (reads_in ts)) (sym (append-nil tasks)) h.asked;
  };
  no_name = λ e. refl;
}

-- the first of the rest is the first of more
next_later : (next rest more : List Task) → IsNext next rest → IsNext next (rest ++ more)
next_later [] rest more h = tt
next_later (t ∷ []) [] more h = absurd h
next_later (t ∷ []) (u ∷ rest) more h = h
next_later (t ∷ u ∷ ts) rest more h = absurd h

-- a front of these is one of more
pub front_later : (ahead : Bool) (base now : Told) (tasks more whole : List Task) → AddsFront ahead base now tasks → whole ≡ tasks ++ more → AddsFront ahead base now whole
front_later ahead base now tasks more whole h w = record {
  some = record {
    front = h.some.front;
    rest = h.some.rest ++ more;
    whole = w ∙ ap (λ ts. ts ++ more) h.some.whole ∙ append_assoc h.some.front h.some.rest more;
    done = h.some.done;
    next = h.some.next;
    is_next = next_later h.some.next h.some.rest more h.some.is_next;
    asked = h.some.asked;
  };
  no_name = λ e. h.no_name e;
}

-- where a name may be read ahead
pub front_some : (base now : Told) (tasks : List Task) → AddsSome base now tasks → AddsFront true base now tasks
front_some base now tasks h = record { some = h; no_name = λ e. absurd (cc e) }
