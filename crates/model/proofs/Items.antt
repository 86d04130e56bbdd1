-- Which item a record is, by its kind. Assumes nothing.
use mathlib.Core.Path.{◌≡◌, refl}
use mathlib.Core.Bool.{Bool, true, false, cond}
use mathlib.Core.List.{List}
use mathlib.Core.Option.{some}
use mathlib.Core.Logic.{◌≢◌}
use lib.Dec.{eqb}
use borrow.Author.Tests.{eqb-true, eqb-false, ne_eqb}
use Prim.Native.Nat.{ℕ}
use Rattle.model.specs.Bytes.{u16}
use Rattle.model.specs.Framing.{Record}
use Rattle.model.specs.Items.{head_kind, arc_kind, estimate_kind, job_kind, measured_kind, wait_kind, factors_kind, default_kind}
use Rattle.model.specs.Items.{flat, Lane, PlaceValue, Item, head, lane, estimate, job, wait, own_factors, default_estimate, other}
use Rattle.model.specs.Items.{head_of, lane_of, measured_of, estimate_of, job_of, wait_of, factors_of, default_of, item_of, lane_in, wait_in, factors_in}
use Rattle.model.proofs.Lists.{none-some}

module _ (r : Record) where
  pub data KindOf : Item → Type 0 where
    is-head : r.kind ≡ head_kind → KindOf (head (head_of r.body))
    is_lane : r.kind ≡ arc_kind → KindOf (lane (lane_of r.body))
    is_estimate : r.kind ≡ estimate_kind → KindOf (estimate (estimate_of r.body))
    is_job_lem : r.kind ≡ job_kind → KindOf (job (job_of r.body))
    is_measured : r.kind ≡ measured_kind → KindOf (lane (measured_of r.body))
    is_wait : r.kind ≡ wait_kind → KindOf (wait (wait_of r.body))
    is_factors : r.kind ≡ factors_kind → KindOf (own_factors (factors_of r.body))
    is_default : r.kind ≡ default_kind → KindOf (default_estimate (default_of r.body))
    is_other_lem : r.kind ≢ head_kind → r.kind ≢ arc_kind → r.kind ≢ estimate_kind → r.kind ≢ job_kind → r.kind ≢ measured_kind
        → r.kind ≢ wait_kind → r.kind ≢ factors_kind → r.kind ≢ default_kind → KindOf other

  pub kind_of : KindOf (item_of r)
  unfolding item_of
  kind_of =
      go (eqb r.kind head_kind) (eqb r.kind arc_kind) (eqb r.kind estimate_kind) (eqb r.kind job_kind) (eqb r.kind measured_kind)
      (eqb r.kind wait_kind) (eqb r.kind factors_kind) (eqb r.kind default_kind)
      refl refl refl refl refl refl refl refl
    where
      go : (a b c d e f g h : Bool) → eqb r.kind head_kind ≡ a → eqb r.kind arc_kind ≡ b → eqb r.kind estimate_kind ≡ c
          → eqb r.kind job_kind ≡ d → eqb r.kind measured_kind ≡ e → eqb r.kind wait_kind ≡ f
          → eqb r.kind factors_kind ≡ g → eqb r.kind default_kind ≡ h
          → KindOf (cond a (head (head_of r.body)) (cond b (lane (lane_of r.body))
          (cond c (estimate (estimate_of r.body)) (cond d (job (job_of r.body)) (cond e (lane (measured_of r.body))
          (cond f (wait (wait_of r.body)) (cond g (own_factors (factors_of r.body))
          (cond h (default_estimate (default_of r.body)) other))))))))
      go true b c d e f g h p q s t u v w x = is-head (eqb-true r.kind head_kind p)
      go false true c d e f g h p q s t u v w x = is_lane (eqb-true r.kind arc_kind q)
      go false false true d e f g h p q s t u v w x = is_estimate (eqb-true r.kind estimate_kind s)
      go false false false true e f g h p q s t u v w x = is_job_lem (eqb-true r.kind job_kind t)
      go false false false false true f g h p q s t u v w x = is_measured (eqb-true r.kind measured_kind u)
      go false false false false false true g h p q s t u v w x = is_wait (eqb-true r.kind wait_kind v)
      go false false false false false false true h p q s t u v w x = is_factors (eqb-true r.kind factors_kind w)
      go false false false false false false false true p q s t u v w x = is_default (eqb-true r.kind default_kind x)
      go false false false false false false false false p q s t u v w x =
          is_other_lem (eqb-false r.kind head_kind p) (eqb-false r.kind arc_kind q) (eqb-false r.kind estimate_kind s)
          (eqb-false r.kind job_kind t) (eqb-false r.kind measured_kind u) (eqb-false r.kind wait_kind v)
          (eqb-false r.kind factors_kind w) (eqb-false r.kind default_kind x)

  pub head_item : r.kind ≡ head_kind → item_of r ≡ head (head_of r.body)
  unfolding item_of
  head_item e = rw e

  pub lane_item : r.kind ≡ arc_kind → item_of r ≡ lane (lane_of r.body)
  unfolding item_of
  lane_item e = rw e

  pub estimate_item : r.kind ≡ estimate_kind → item_of r ≡ estimate (estimate_of r.body)
  unfolding item_of
  estimate_item e = rw e

  pub job_item : r.kind ≡ job_kind → item_of r ≡ job (job_of r.body)
  unfolding item_of
  job_item e = rw e

  pub measured_item : r.kind ≡ measured_kind → item_of r ≡ lane (measured_of r.body)
  unfolding item_of
  measured_item e = rw e

  pub wait_item : r.kind ≡ wait_kind → item_of r ≡ wait (wait_of r.body)
  unfolding item_of
  wait_item e = rw e

  pub factors_item : r.kind ≡ factors_kind → item_of r ≡ own_factors (factors_of r.body)
  unfolding item_of
  factors_item e = rw e

  pub default_item : r.kind ≡ default_kind → item_of r ≡ default_estimate (default_of r.body)
  unfolding item_of
  default_item e = rw e

  pub other_item : r.kind ≢ head_kind → r.kind ≢ arc_kind → r.kind ≢ estimate_kind → r.kind ≢ job_kind → r.kind ≢ measured_kind
      → r.kind ≢ wait_kind → r.kind ≢ factors_kind → r.kind ≢ default_kind → item_of r ≡ other
  unfolding item_of
  other_item a b c d e f g h =
      simp (ne_eqb _ _ a, ne_eqb _ _ b, ne_eqb _ _ c, ne_eqb _ _ d, ne_eqb _ _ e, ne_eqb _ _ f, ne_eqb _ _ g, ne_eqb _ _ h)

  -- a lane's flat cost is a field of the body
  pub flat_field : (l : Lane) (c : ℕ) → lane_in (item_of r) ≡ some l → l.charge ≡ flat c → c ≡ u16 r.body 4
  unfolding lane_in lane_of measured_of
  flat_field l c e f = go (item_of r) kind_of e
    where
      go : (i : Item) → KindOf i → lane_in i ≡ some l → c ≡ u16 r.body 4
      go (head s) k e = none-some e
      go (lane m) (is_lane q) e = cc
      go (lane m) (is_measured q) e = cc
      go (estimate s) k e = none-some e
      go (job j) k e = none-some e
      go (wait w) k e = none-some e
      go (own_factors fs) k e = none-some e
      go (default_estimate x) k e = none-some e
      go other k e = none-some e

  -- and so is a wait
  pub wait_field : (w : PlaceValue) → wait_in (item_of r) ≡ some w → w.value ≡ u16 r.body 2
  unfolding wait_in wait_of
  wait_field w e = go (item_of r) kind_of e
    where
      go : (i : Item) → KindOf i → wait_in i ≡ some w → w.value ≡ u16 r.body 2
      go (head s) k e = none-some e
      go (lane m) k e = none-some e
      go (estimate s) k e = none-some e
      go (job j) k e = none-some e
      go (wait w) (is_wait q) e = cc
      go (own_factors fs) k e = none-some e
      go (default_estimate x) k e = none-some e
      go other k e = none-some e

  -- and so are the eight factors
  pub factors_field : (fs : List ℕ) → factors_in (item_of r) ≡ some fs → fs ≡ factors_of r.body
  unfolding factors_in
  factors_field fs e = go (item_of r) kind_of e
    where
      go : (i : Item) → KindOf i → factors_in i ≡ some fs → fs ≡ factors_of r.body
      go (head s) k e = none-some e
      go (lane m) k e = none-some e
      go (estimate s) k e = none-some e
      go (job j) k e = none-some e
      go (wait w) k e = none-some e
      go (own_factors gs) (is_factors q) e = cc
      go (default_estimate x) k e = none-some e
      go other k e = none-some e
