-- The examples compute.
use Rattle.std.proofs.Common.{refl}
use Rattle.dx_meaning.specs.Rows.{Examples}

pub examples : Examples
examples = record {
  zero_is_null = refl;
  first_is_chosen = refl;
  second_is_bad = refl;
  text_halts = refl;
  first_is_off = refl;
  second_is_on = refl;
  nothing_runs = refl;
  passed_over = refl;
  later_site = refl;
  held_is_given = refl;
  other_is_initial = refl;
  own_name = refl;
  name_refuses = refl;
  name_before_off = refl;
  off_before_name = refl;
  written_is_read = refl;
  other_file_is_read = refl;
}
