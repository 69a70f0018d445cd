-- Files that are put one after the other.
use Rattle.std.proofs.Common.{◌≡◌, List, [], ◌∷◌, ◌++◌, Option, Some, None, refl, sym, ap, subst, ◌∙◌, append_assoc, append-nil}
use Rattle.dx_io.specs.Devices.{with_more}
use Rattle.dx_tags.specs.Files.{FileMap, file_put}
use Rattle.dx_performing.specs.Execution.{Export, after_exports}
use Rattle.dx_ending.specs.Putting.{ArePut, ArePutBefore}

after_both : (files : FileMap) (front more : List Export) → after_exports files (front ++ more) ≡ after_exports (after_exports files front) more
after_both files [] more = refl
after_both files (e ∷ es) more = after_both (file_put files e.0 e.1) es more

more_both : (told : Option (List Export)) (front more : List Export) → with_more (with_more told front) more ≡ with_more told (front ++ more)
more_both None front more = refl
more_both (Some xs) front more = ap Some (append_assoc xs front more)

-- some, and then more
pub put_both : (t0 t1 t2 : Option (List Export)) (f0 f1 f2 : FileMap) (front more : List Export) → ArePut t0 t1 f0 f1 front → ArePut t1 t2 f1 f2 more → ArePut t0 t2 f0 f2 (front ++ more)
put_both t0 t1 t2 f0 f1 f2 front more a b = record {
  told = b.told ∙ ap (λ t. with_more t more) a.told ∙ more_both t0 front more;
  files = b.files ∙ ap (λ f. after_exports f more) a.files ∙ sym (after_both f0 front more);
}

none_more : (told : Option (List Export)) → told ≡ with_more told []
none_more None = refl
none_more (Some xs) = ap Some (sym (append-nil xs))

pub put_none : (was : Option (List Export)) (before : FileMap) → ArePut was was before before []
put_none was before = record { told = none_more was; files = refl }

-- so many are put, and these are left
pub record ArePutSoFar (was now : Option (List Export)) (before behind : FileMap) (all rest : List Export) : Type 0 where
  pub front : List Export
  pub split : all ≡ front ++ rest
  pub made : ArePut was now before behind front

pub so_far_none : (was : Option (List Export)) (before : FileMap) (all : List Export) → ArePutSoFar was was before before all all
so_far_none was before all = record { front = []; split = refl; made = put_none was before }

pub so_far_more : (t0 t1 t2 : Option (List Export)) (f0 f1 f2 : FileMap) (all rest left : List Export) (e : Export) → left ≡ e ∷ rest → ArePutSoFar t0 t1 f0 f1 all left → ArePut t1 t2 f1 f2 (e ∷ []) → ArePutSoFar t0 t2 f0 f2 all rest
so_far_more t0 t1 t2 f0 f1 f2 all rest left e is s a = record {
  front = s.front ++ e ∷ [];
  split = s.split ∙ ap (λ xs. s.front ++ xs) is ∙ sym (append_assoc s.front (e ∷ []) rest);
  made = put_both t0 t1 t2 f0 f1 f2 s.front (e ∷ []) s.made a;
}

pub so_far_failed : (t0 t1 t2 : Option (List Export)) (f0 f1 f2 : FileMap) (all rest left : List Export) (e : Export) → left ≡ e ∷ rest → ArePutSoFar t0 t1 f0 f1 all left → ArePut t1 t2 f1 f2 [] → ArePutBefore t0 t2 f0 f2 all
so_far_failed t0 t1 t2 f0 f1 f2 all rest left e is s a = record {
  front = s.front;
  failed = e;
  rest = rest;
  split = s.split ∙ ap (λ xs. s.front ++ xs) is;
  made = subst (ArePut t0 t2 f0 f2) (append-nil s.front) (put_both t0 t1 t2 f0 f1 f2 s.front [] s.made a);
}

pub so_far_all : (was now : Option (List Export)) (before behind : FileMap) (all left : List Export) → left ≡ [] → ArePutSoFar was now before behind all left → ArePut was now before behind all
so_far_all was now before behind all left is s = subst (ArePut was now before behind) (sym (s.split ∙ ap (λ xs. s.front ++ xs) is ∙ append-nil s.front)) s.made
