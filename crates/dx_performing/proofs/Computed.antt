-- The examples compute.
use Rattle.std.proofs.Common.{refl}
use Rattle.dx_performing.specs.Rows.{Examples}

pub examples : Examples
examples = record {
  echoes = refl;
  prints = refl;
  no_options = refl;
  puts = refl;
  nothing_to_put = refl;
  no_name = refl;
  another_format = refl;
  sets_global = refl;
  sets_local = refl;
  no_link = refl;
  passed_over = refl;
  ends_at_error = refl;
  own_refusal = refl;
  files_as_before = refl;
  written_behind = refl;
  last_set = refl;
  set_of_null = refl;
  no_set_with_error = refl;
  first_time = refl;
  second_time = refl;
  no_budget = refl;
  run_site = refl;
  error_site = refl;
  link_needs_no_run = refl;
}
