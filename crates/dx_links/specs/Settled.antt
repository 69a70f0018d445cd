-- Links of which it is told whether any changed since the last emptying: where none did they are settled.
use Rattle.std.specs.Prelude.{ℕ, Bool, true, false}
use Rattle.dx_objects.specs.Runs.{Values}
use Rattle.dx_tags.specs.declared.term.ValueTag.{ValueTag}
use Rattle.dx_links.specs.LinkMap.{LinkMap}
use Rattle.dx_links.specs.Emptied.{all_held, values_held, held_tag}

-- the links: each has the term of its place where they are settled
abbrev pub links_seen : Bool → LinkMap → LinkMap
links_seen true links = all_held links
links_seen false links = links

-- the tag of what stands at a place
abbrev pub tag_seen : Bool → ℕ → ValueTag → ValueTag
tag_seen true i tag = held_tag i
tag_seen false i tag = tag

-- the values that were held at the last emptying: those of the links where they are settled
abbrev pub held_seen : Bool → LinkMap → Values → Values
held_seen true links held = values_held links
held_seen false links held = held

-- the room for changes outside an emptying, which begin by making room
abbrev pub room_seen : Bool → ℕ → ℕ
room_seen true room = 0
room_seen false room = room
