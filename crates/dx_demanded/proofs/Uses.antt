-- Tasks that are among uses.
use Rattle.std.proofs.Common.{inl, inr, List, [], ◌∷◌, ◌++◌}
use Rattle.dx_machine.specs.Machine.{Task}
use Rattle.dx_machine.specs.Agree.{Demanded, Runs, Refuses, more_of}
use Rattle.dx_meaning.specs.Outcome.{Use}
use Rattle.dx_demanded.specs.Used.{IsUsed, AreUsed, tasks_in}

-- what is one of the first uses is one of the others
abbrev pub Within : List Use → List Use → Type 0
Within us vs = (t : Task) → IsUsed us t → IsUsed vs t

pub in_front : (us vs : List Use) → Within us (us ++ vs)
in_front [] vs t h = absurd h
in_front (u ∷ us) vs t (inl e) = inl e
in_front (u ∷ us) vs t (inr h) = inr (in_front us vs t h)

pub behind : (us vs : List Use) → Within vs (us ++ vs)
behind [] vs t h = h
behind (u ∷ us) vs t h = inr (behind us vs t h)

-- all of both are within, if each is
pub both_within : (us vs ws : List Use) → Within us ws → Within vs ws → Within (us ++ vs) ws
both_within [] vs ws p q t h = q t h
both_within (u ∷ us) vs ws p q t (inl e) = p t (inl e)
both_within (u ∷ us) vs ws p q t (inr h) = both_within us vs ws (λ r k. p r (inr k)) q t h

pub used_within : (us vs : List Use) (ts : List Task) → Within us vs → AreUsed us ts → AreUsed vs ts
used_within us vs [] p h = tt
used_within us vs (t ∷ ts) p h = (p t h.0, used_within us vs ts p h.1)

pub used_append : (us : List Use) (ts rs : List Task) → AreUsed us ts → AreUsed us rs → AreUsed us (ts ++ rs)
used_append us [] rs h k = k
used_append us (t ∷ ts) rs h k = (h.0, used_append us ts rs h.1 k)

pub used_more : (us : List Use) (ts : List Task) (d : Demanded) → AreUsed us ts → AreUsed us (tasks_in d) → AreUsed us (tasks_in (more_of ts d))
used_more us ts (Runs rs) h k = used_append us ts rs h k
used_more us ts (Refuses rs c code) h k = used_append us ts rs h k

-- ---- the uses of one argument, and of those behind it

module _ (cu du more others : List Use) where
  pub own_within : Within (cu ++ du) ((cu ++ more) ++ (du ++ others))
  own_within = both_within cu du ((cu ++ more) ++ (du ++ others))
      (λ t h. in_front (cu ++ more) (du ++ others) t (in_front cu more t h))
      (λ t h. behind (cu ++ more) (du ++ others) t (in_front du others t h))

  pub others_within : Within (more ++ others) ((cu ++ more) ++ (du ++ others))
  others_within = both_within more others ((cu ++ more) ++ (du ++ others))
      (λ t h. in_front (cu ++ more) (du ++ others) t (behind cu more t h))
      (λ t h. behind (cu ++ more) (du ++ others) t (behind du others t h))

  pub own_alone_within : Within (cu ++ du) ((cu ++ more) ++ du)
  own_alone_within = both_within cu du ((cu ++ more) ++ du)
      (λ t h. in_front (cu ++ more) du t (in_front cu more t h))
      (λ t h. behind (cu ++ more) du t h)

  pub chosen_within : Within (more ++ others) ((cu ++ more) ++ others)
  chosen_within = both_within more others ((cu ++ more) ++ others)
      (λ t h. in_front (cu ++ more) others t (behind cu more t h))
      (λ t h. behind (cu ++ more) others t h)
