use Rattle.std.proofs.Common.{refl}
use Rattle.dx_links.proofs.LinkLaws.{key_cmp_total}
use Rattle.dx_links.proofs.MapLaws.{lookup_put, lookup_taken}
use Rattle.dx_links.proofs.laws.links_are_a_map.Goals as goal

pub returns-clause-put : goal.returns-clause-put
returns-clause-put c = λ links k q h. lookup_put key_cmp_total q k h links

pub returns-clause-taken : goal.returns-clause-taken
returns-clause-taken c = λ links k q s. lookup_taken key_cmp_total q k links s

pub returns-clause-globals_first : goal.returns-clause-globals_first
returns-clause-globals_first c = λ n p m. refl

pub returns-clause-globals : goal.returns-clause-globals
returns-clause-globals c = λ n m. refl

pub returns-clause-locals : goal.returns-clause-locals
returns-clause-locals c = λ p n q m. refl
