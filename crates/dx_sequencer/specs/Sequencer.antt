-- The sequencer: its variables and switches, and what each word does to them. `next` is a whole number without bounds.
use Rattle.std.specs.Prelude.{◌≡◌, ◌<◌, ℕ, zero, suc, ℤ, pos, negsuc, ◌+ℤ◌, ◌-ℤ◌, ◌*ℤ◌, Bool, true, false, not, ◌&&◌, ◌||◌, int_le, int_lt, nat_lt, Option, Some, None, if◌then◌else◌}
use Rattle.dx_ast.specs.declared.sequencing.FrameVar.{FrameVar}
use Rattle.dx_ast.specs.declared.sequencing.FrameVar.TheVariants as var
use Rattle.dx_ast.specs.declared.sequencing.Frames.{Frames}

pub record State : Type 0 where
  pub start : ℤ
  pub end : ℤ
  pub delta : ℤ
  pub next : ℤ
  pub frame : ℤ
  pub forward : Bool
  pub loops : Bool
  pub palindrome : Bool

-- when a session begins
abbrev pub initial : State
initial = record { start = pos 1; end = pos 100; delta = pos 1; next = pos 1; frame = pos 1; forward = true; loops = false; palindrome = false }

-- ---- frames

abbrev pub is_inside : State → ℤ → Bool
is_inside s x = int_le s.start x && int_le x s.end

-- the first frame of a pass
abbrev pub first_frame : State → ℤ
first_frame s = if s.forward then s.start else s.end

-- by delta in the direction
abbrev pub moved : State → ℤ → ℤ
moved s x = if s.forward then x +ℤ s.delta else x -ℤ s.delta

-- ---- what is seen

abbrev pub least_int : ℤ
least_int = negsuc 2147483647

abbrev pub greatest_int : ℤ
greatest_int = pos 2147483647

-- the number, or the nearer end of the ints
abbrev pub clamped : ℤ → ℤ
clamped x = if int_lt x least_int then least_int else (if int_lt greatest_int x then greatest_int else x)

abbrev pub frames_of : State → Frames
frames_of s = record { start = s.start; end = s.end; delta = s.delta; next = clamped s.next; frame = s.frame }

-- ---- settings

abbrev pub with_var : FrameVar → ℤ → State → State
with_var var.Start x s = record s { start = x }
with_var var.End x s = record s { end = x }
with_var var.Delta x s = record s { delta = x }
with_var var.Next x s = record s { next = x }
with_var var.Frame x s = record s { frame = x }

-- a delta is at least 1
abbrev pub is_refused : FrameVar → ℤ → Bool
is_refused var.Delta x = int_lt x (pos 1)
is_refused var.Start x = false
is_refused var.End x = false
is_refused var.Next x = false
is_refused var.Frame x = false

-- ---- steps

-- next is the first frame of a pass
abbrev pub rewound : State → State
rewound s = record s { next = first_frame s }

-- the frame is next, and next moves on
abbrev pub advanced : State → State
advanced s = record s { frame = s.next; next = moved s s.next }

-- a frame where it is inside, and else the first of the pass
abbrev pub inside_or_first : State → ℤ → ℤ
inside_or_first s x = if is_inside s x then x else first_frame s

abbrev pub gone_on_from : ℤ → State → State
gone_on_from frame s = record s { next = inside_or_first s (moved s frame) }

-- the direction turns, and next is the frame behind the last one or, where that isn't inside, the first of the pass
abbrev pub turned : State → State
turned s = gone_on_from s.frame (record s { forward = not s.forward })

-- a pass is over and another begins
abbrev pub again : State → State
again s = if s.palindrome then turned s else rewound s

-- whether a step ends instead of having a frame
abbrev pub ends : State → Bool
ends s = if is_inside s s.next then false else (not s.loops || int_lt s.end s.start)

abbrev pub after_step : State → State
after_step s = if is_inside s s.next then advanced s else (if ends s then rewound s else advanced (again s))

-- the frame that a step has, if it has one
abbrev pub step_frame : State → Option ℤ
step_frame s = if is_inside s s.next then Some s.next else (if ends s then None else Some (again s).next)

-- ---- plays

-- where a play begins
abbrev pub at_play : State → State
at_play s = record s { next = inside_or_first s s.next }

-- the frame that this many steps of one pass lead to
abbrev pub frame_behind : State → ℕ → ℤ
frame_behind s n = if s.forward then s.next +ℤ pos n *ℤ s.delta else s.next -ℤ pos n *ℤ s.delta

-- A play makes a step for each frame from next on, in the direction, as long as they are inside: the frames of so many steps
-- are inside, and the one behind them isn't.
pub record IsPlay (s : State) (steps : ℕ) : Type 0 where
  pub inside : (k : ℕ) → k < steps → is_inside s (frame_behind s k) ≡ true
  pub outside : is_inside s (frame_behind s steps) ≡ false

abbrev pub max_steps : ℕ
max_steps = 65536

-- more steps than a play may have
pub record IsLongPlay (s : State) : Type 0 where
  pub steps : ℕ
  pub play : IsPlay s steps
  pub long : max_steps < steps

-- how many frames are inside from this one on in the direction, counted no further than a bound
unfoldable pub frames_inside : ℕ → State → ℤ → ℕ
frames_inside zero s x = 0
frames_inside (suc bound) s x = if is_inside s x then suc (frames_inside bound s (moved s x)) else 0

-- the steps of a play, or one more than a play may have
abbrev pub play_steps : State → ℕ
play_steps s = frames_inside (suc max_steps) s s.next

abbrev pub is_too_long : State → Bool
is_too_long s = nat_lt max_steps (play_steps s)

-- the steps of a play that isn't too long
abbrev pub steps_of_play : State → Option ℕ
steps_of_play s = if is_too_long s then None else Some (play_steps s)
