-- Items with one more at their end: what they state, and the number that the new one is given. Assumes nothing.
use mathlib.Core.Path.{◌≡◌, refl, ap₂, sym, ◌∙◌}
use mathlib.Core.Bool.{Bool, true, false, cond, not, ◌||◌, or-false, or_assoc, true≢false}
use mathlib.Core.List.{List, [], ◌∷◌, ◌++◌, map-append, append-nil, head_d}
use mathlib.Core.Option.{Option, none, some}
use Prim.Native.Nat.{ℕ, suc, ◌<◌}
use native.Mathlib.Omega.{arith}
use lib.Dec.{ltb, leb, eqb}
use lib.ListN.{length}
use borrow.Author.Tests.{lt-ltb, leb-false, ne_eqb}
use Rattle.judge.specs.Numbers.{no_number, number_or, given_number}
use Rattle.judge.specs.Survey.{given, few_places, opening, size_or, is_head, stray, job_or, last_job, placed, item_rows}
use Rattle.model.specs.Stated.{no_size}
use Rattle.model.specs.Refusals.{row}
use Rattle.model.proofs.Tests.{any_filter_map_append, filter_map_append, any_append, or_swap, repeats_snoc}
use Rattle.judge.proofs.NumberLaws.{Joined, none as end, more}
use Rattle.judge.proofs.RefusalLaws.{given_cond}
use Rattle.map.specs.declared.record as declared
use Rattle.map.specs.declared.record.Item.{Item}
use Rattle.map.specs.declared.record.Item.TheVariants.{Head, Lane, Measured, Estimate, Wait, Factors, Default, Job, Misfit, Other}
use Rattle.map.specs.Items.{is_misfit, meant}
use Rattle.model.specs.Items as model
use Rattle.model.specs.Limits.{max_estimate}
use Rattle.model.specs.Lists.{any, is_given, cons_if, filter_map, member, repeats}
use Rattle.model.specs.Refusals.{Row, places_in, names_outside, outside_map, is_free, free_arc, large_estimate, two_estimates, mismeasured, wrong_measure, map_rows}
use Rattle.model.specs.Refusals.{begins_with_head, wrong_head, ends_with_job}
use Rattle.model.specs.Stated.{stated_by}

-- ---- What they state

pub ends_snoc : (is : List model.Item) (j : model.Item) → ends_with_job (is ++ (j ∷ [])) ≡ is_given (model.job_in j)
unfolding ends_with_job
ends_snoc [] j = refl
ends_snoc (i ∷ []) j = refl
ends_snoc (i ∷ k ∷ is) j = ends_snoc (k ∷ is) j

pub last_snoc : (d : model.Job) (is : List model.Item) (j : model.Item) → last_job d (is ++ (j ∷ [])) ≡ job_or (last_job d is) (model.job_in j)
unfolding last_job
last_snoc d [] j = refl
last_snoc d (i ∷ is) j = last_snoc (job_or d (model.job_in i)) is j

-- of one job the last is the first
last_none : (d : model.Job) (is : List model.Item) → length (filter_map model.job_in is) ≡ 0 → last_job d is ≡ d
unfolding last_job filter_map cons_if
last_none d [] e = refl
last_none d (i ∷ is) e = go (model.job_in i) e (λ f. last_none d is f)
  where
    go : (o : Option model.Job) → length (cons_if o (filter_map model.job_in is)) ≡ 0
        → (length (filter_map model.job_in is) ≡ 0 → last_job d is ≡ d) → last_job (job_or d o) is ≡ d
    go none e rest = rest e
    go (some j) e rest = absurd (omega arith)

pub last_one : (d c : model.Job) (is : List model.Item) → length (filter_map model.job_in is) ≡ 1
    → last_job d is ≡ head_d (filter_map model.job_in is) c
unfolding last_job filter_map cons_if head_d
last_one d c [] e = absurd (omega arith)
last_one d c (i ∷ is) e = go (model.job_in i) e (last_one d c is) (λ j. last_none j is)
  where
    go : (o : Option model.Job) → length (cons_if o (filter_map model.job_in is)) ≡ 1
        → (length (filter_map model.job_in is) ≡ 1 → last_job d is ≡ head_d (filter_map model.job_in is) c)
        → ((j : model.Job) → length (filter_map model.job_in is) ≡ 0 → last_job j is ≡ j)
        → last_job (job_or d o) is ≡ head_d (cons_if o (filter_map model.job_in is)) c
    go none e rest alone = rest e
    go (some j) e rest alone = alone j (omega arith)

-- where the first item is a head, it states the size
pub opening_size : (is : List model.Item) → wrong_head is ≡ false → opening is ≡ (stated_by is).size
unfolding opening stated_by wrong_head begins_with_head filter_map cons_if head_d is_given
opening_size [] e = absurd (true≢false e)
opening_size (i ∷ is) e = go (model.size_in i) e
  where
    go : (o : Option model.Size) → (not (is_given o) || ltb 1 (length (cons_if o (filter_map model.size_in is)))) ≡ false
        → size_or o ≡ head_d (cons_if o (filter_map model.size_in is)) no_size
    go none e = absurd (true≢false e)
    go (some z) e = refl

-- a size as it is noted: no places where they are more than a map can have
abbrev pub noted_size : model.Size → model.Size
noted_size z = record { places = few_places z.places; arcs = z.arcs }

-- the size with one item more: a head states it, if it is the first item
abbrev pub size_after : Bool → model.Size → Option model.Size → model.Size
size_after first now none = now
size_after first now (some z) = cond first (noted_size z) now

pub size_kept : (now : model.Size) (o : Option model.Size) → size_after false now o ≡ now
size_kept now none = refl
size_kept now (some z) = refl

pub opening_snoc : (is : List model.Item) (j : model.Item)
    → size_after (eqb (length is) 0) (noted_size (opening is)) (model.size_in j) ≡ noted_size (opening (is ++ (j ∷ [])))
unfolding opening
opening_snoc [] j = go (model.size_in j)
  where
    go : (o : Option model.Size) → size_after true no_size o ≡ noted_size (size_or o)
    go none = refl
    go (some z) = refl
opening_snoc (i ∷ is) j = rw (ne_eqb (suc (length is)) 0 (λ z. omega arith)) (size_kept (noted_size (size_or (model.size_in i))) (model.size_in j))

-- of items, that one is stray is that there is none at the head or a second one
some-head : (is : List model.Item) → any is_head is ≡ ltb 1 (suc (length (filter_map model.size_in is)))
unfolding any filter_map cons_if is_given
some-head [] = refl
some-head (i ∷ is) = go (model.size_in i) (some-head is)
  where
    go : (o : Option model.Size) → any is_head is ≡ ltb 1 (suc (length (filter_map model.size_in is)))
        → (is_given o || any is_head is) ≡ ltb 1 (suc (length (cons_if o (filter_map model.size_in is))))
    go none e = e
    go (some z) e = sym (lt-ltb 1 (suc (suc (length (filter_map model.size_in is)))) (omega arith))

pub stray-head : (i : model.Item) (is : List model.Item) → stray (i ∷ is) ≡ wrong_head (i ∷ is)
unfolding stray wrong_head begins_with_head filter_map cons_if is_given
stray-head i is = go (model.size_in i) (some-head is)
  where
    heads : Bool
    heads = any is_head is

    go : (o : Option model.Size) → heads ≡ ltb 1 (suc (length (filter_map model.size_in is)))
        → (not (is_given o) || heads) ≡ (not (is_given o) || ltb 1 (length (cons_if o (filter_map model.size_in is))))
    go none e = refl
    go (some z) e = e

-- ---- The number of one item more

unfoldable pub is_other : Item → Bool
is_other (Head z) = false
is_other (Lane l) = false
is_other (Measured l) = false
is_other (Estimate e) = false
is_other (Wait w) = false
is_other (Factors at) = false
is_other (Default x) = false
is_other (Job j) = false
is_other Misfit = false
is_other Other = true

unfoldable pub stray_at : Bool → model.Item → Bool
stray_at first j = cond first (not (is_head j)) (is_head j)

-- the conditions that one item meets, after others whose estimates have these places, and with a default among them or not
unfoldable pub own : (unknown misfit first : Bool) (n : ℕ) (places : List ℕ) (earlier : Bool) → model.Item → List Row
own unknown misfit first n places earlier j =
    let s = placed n (stated_by (j ∷ [])) in
    row 2 unknown
    ∷ row 3 misfit
    ∷ row 4 (stray_at first j)
    ∷ row 6 (outside_map s)
    ∷ row 7 (free_arc s)
    ∷ row 8 (large_estimate s)
    ∷ row 9 (any (λ (e : model.PlaceValue). member e.place places) s.estimates || any (λ (x : ℕ). earlier) s.defaults)
    ∷ row 20 (wrong_measure s)
    ∷ []

stray_snoc : (is : List model.Item) (j : model.Item) → stray (is ++ (j ∷ [])) ≡ (stray is || stray_at (eqb (length is) 0) j)
unfolding stray stray_at any
stray_snoc [] j = or-false (not (is_head j))
stray_snoc (i ∷ is) j =
    let later : eqb (suc (length is)) 0 ≡ false = ne_eqb (suc (length is)) 0 (λ z. omega arith) in
    rw (later, any_append is_head is (j ∷ []), or-false (is_head j)) (sym (or_assoc (not (is_head i)) (any is_head is) (is_head j)))

twice_snoc : (is : List model.Item) (j : model.Item)
    → repeats (places_in (filter_map model.estimate_in (is ++ (j ∷ []))))
    ≡ (repeats (places_in (filter_map model.estimate_in is))
    || any (λ (e : model.PlaceValue). member e.place (places_in (filter_map model.estimate_in is))) (filter_map model.estimate_in (j ∷ [])))
unfolding filter_map cons_if any
twice_snoc is j = rw (filter_map_append model.estimate_in is (j ∷ [])) (go (model.estimate_in j))
  where
    es : List model.PlaceValue
    es = filter_map model.estimate_in is

    go : (o : Option model.PlaceValue) → repeats (places_in (es ++ cons_if o []))
        ≡ (repeats (places_in es) || any (λ (e : model.PlaceValue). member e.place (places_in es)) (cons_if o []))
    go none = rw (append-nil es) (sym (or-false (repeats (places_in es))))
    go (some e) =
        let place = e.place in
        rw (map-append (λ (e : model.PlaceValue). e.place) es (e ∷ []), repeats_snoc (places_in es) place, or-false (member place (places_in es)))

-- a default that follows another is a second one
second_snoc : (is : List model.Item) (j : model.Item)
    → ltb 1 (length (filter_map model.default_in (is ++ (j ∷ []))))
    ≡ (ltb 1 (length (filter_map model.default_in is))
    || any (λ (x : ℕ). not (eqb (length (filter_map model.default_in is)) 0)) (filter_map model.default_in (j ∷ [])))
unfolding filter_map cons_if any
second_snoc is j = rw (filter_map_append model.default_in is (j ∷ [])) (go (filter_map model.default_in is) (model.default_in j))
  where
    go : (xs : List ℕ) (o : Option ℕ)
        → ltb 1 (length (xs ++ cons_if o [])) ≡ (ltb 1 (length xs) || any (λ (x : ℕ). not (eqb (length xs) 0)) (cons_if o []))
    go xs none = rw (append-nil xs) (sym (or-false (ltb 1 (length xs))))
    go [] (some y) = refl
    go (x ∷ []) (some y) = refl
    go (x ∷ z ∷ xs) (some y) =
        let two : (n : ℕ) → ltb 1 (suc (suc n)) ≡ true = λ n. lt-ltb 1 (suc (suc n)) (omega arith) in
        rw (two (length xs), two (length (xs ++ (y ∷ []))))

or_joined : {x y : Bool} (a b c d : Bool) → x ≡ (a || b) → y ≡ (c || d) → (x || y) ≡ ((a || c) || (b || d))
or_joined a b c d p q = ap₂ (λ (x y : Bool). x || y) p q ∙ or_swap a b c d

outside_snoc : (n : ℕ) (is : List model.Item) (j : model.Item)
    → outside_map (placed n (stated_by (is ++ (j ∷ []))))
    ≡ (outside_map (placed n (stated_by is)) || outside_map (placed n (stated_by (j ∷ []))))
unfolding placed stated_by outside_map
outside_snoc n is j =
    let lanes = any (λ (l : model.Lane). leb n l.from || leb n l.to) (filter_map model.lane_in is) in
    let estimates = names_outside n (filter_map model.estimate_in is) in
    or_joined (lanes || estimates) _ (names_outside n (filter_map model.wait_in is)) _
    (or_joined lanes _ estimates _ (any_filter_map_append model.lane_in _ is (j ∷ [])) (any_filter_map_append model.estimate_in _ is (j ∷ [])))
    (any_filter_map_append model.wait_in _ is (j ∷ []))

large_snoc : (is : List model.Item) (j : model.Item)
    → large_estimate (stated_by (is ++ (j ∷ []))) ≡ (large_estimate (stated_by is) || large_estimate (stated_by (j ∷ [])))
unfolding stated_by large_estimate
large_snoc is j =
    let large = any (λ (e : model.PlaceValue). ltb max_estimate e.value) (filter_map model.estimate_in is) in
    or_joined large _ (any (ltb max_estimate) (filter_map model.default_in is)) _
    (any_filter_map_append model.estimate_in _ is (j ∷ []))
    (any_filter_map_append model.default_in _ is (j ∷ []))

pub joined : (U W u w : Bool) (n : ℕ) (is : List model.Item) (j : model.Item)
    → let earlier = not (eqb (length (filter_map model.default_in is)) 0) in
    Joined no_number 1 (item_rows U W n is) (own u w (eqb (length is) 0) n (places_in (filter_map model.estimate_in is)) earlier j)
    (item_rows (U || u) (W || w) n (is ++ (j ∷ [])))
unfolding item_rows own map_rows placed stated_by outside_map free_arc large_estimate two_estimates wrong_measure
joined U W u w n is j =
    more 2 refl refl
    (more 3 refl refl
    (more 4 refl (stray_snoc is j)
    (more 6 refl (outside_snoc n is j)
    (more 7 refl (any_filter_map_append model.lane_in _ is (j ∷ []))
    (more 8 refl (large_snoc is j)
    (more 9 refl (or_joined (repeats (places_in (filter_map model.estimate_in is))) _ _ _ (twice_snoc is j) (second_snoc is j))
    (more 20 refl (any_filter_map_append model.lane_in _ is (j ∷ [])) (end refl))))))))

-- an estimate's place has an estimate already, or there is a default already
pub record Again (n : ℕ) (places : List ℕ) (earlier again : Bool) (i : Item) : Type 0 where
  pub estimate : (e : declared.PlaceValue.PlaceValue) → i ≡ Estimate e → e.place < n → again ≡ member e.place places
  pub default : (x : ℕ) → i ≡ Default x → again ≡ earlier

-- what an item is given is the number of the conditions that it meets
module _ (input : List ℕ) (n : ℕ) (places : List ℕ) (earlier again : Bool) where
  pub own_given : (first : Bool) (i : Item) → (first ≡ false → Again n places earlier again i)
      → number_or no_number (own (is_other i) (is_misfit i) first n places earlier (meant input i)) ≡ given_number (given first n again i)
  unfolding number_or own stray_at is_other is_misfit meant given placed stated_by outside_map free_arc is_free
      large_estimate wrong_measure mismeasured
      filter_map cons_if any is_given model.size_in model.lane_in model.estimate_in model.default_in model.wait_in model.job_in
  own_given true (Head z) h = refl
  own_given false (Head z) h = refl
  own_given true (Lane l) h = refl
  own_given false (Lane l) h = simp (or-false, given_cond)
  own_given true (Measured l) h = refl
  own_given false (Measured l) h = simp (or-false, given_cond)
  own_given true (Estimate e) h = refl
  own_given false (Estimate e) h = simp (or-false, given_cond) (go (leb n e.place) refl)
    where
      go : (t : Bool) → leb n e.place ≡ t
          → cond t 6 (cond (ltb max_estimate e.value) 8 (cond (member e.place places) 9 no_number))
          ≡ cond t 6 (cond (ltb max_estimate e.value) 8 (cond again 9 no_number))
      go true f = refl
      go false f = rw ((h refl).estimate e refl (leb-false n e.place f))
  own_given true (Wait w) h = refl
  own_given false (Wait w) h = simp (or-false, given_cond)
  own_given true (Factors at) h = refl
  own_given false (Factors at) h = refl
  own_given true (Default x) h = refl
  own_given false (Default x) h = simp (or-false, given_cond) (rw ((h refl).default x refl))
  own_given true (Job j) h = refl
  own_given false (Job j) h = refl
  own_given true Misfit h = refl
  own_given false Misfit h = refl
  own_given true Other h = refl
  own_given false Other h = refl

-- a first item's number has nothing to do with the map
pub given_first : (n m : ℕ) (a b : Bool) (i : Item) → given true n a i ≡ given true m b i
unfolding given
given_first n m a b (Head z) = refl
given_first n m a b (Lane l) = refl
given_first n m a b (Measured l) = refl
given_first n m a b (Estimate e) = refl
given_first n m a b (Wait w) = refl
given_first n m a b (Factors at) = refl
given_first n m a b (Default x) = refl
given_first n m a b (Job j) = refl
given_first n m a b Misfit = refl
given_first n m a b Other = refl
