-- What a lookup answers with: an own value, or the default. Assumes nothing.
use mathlib.Core.Path.{◌≡◌, refl, sym, ◌∙◌}
use mathlib.Core.Bool.{Bool, true, false, cond, true≢false}
use mathlib.Core.List.Memᴰ
use mathlib.Core.List.{List, [], ◌∷◌, Memᴰ}
use Prim.Native.Nat.{ℕ, ◌≤◌}
use lib.Dec.{eqb}
use borrow.Author.Tests.{eq-eqb, ne_eqb}
use Rattle.model.specs.Lists.{member, repeats}
use Rattle.model.specs.Items.{PlaceValue}
use Rattle.model.specs.Stated.{lookup}
use Rattle.model.specs.Refusals.{places_in}
use Rattle.model.proofs.Lists.{neither, member_true}

pub lookup_below : (d : ℕ) (es : List PlaceValue) (m : ℕ) → d ≤ m → ((e : PlaceValue) → Memᴰ e es → e.value ≤ m) → (v : ℕ)
    → lookup d es v ≤ m
unfolding lookup
lookup_below d [] m l h v = l
lookup_below d (e ∷ es) m l h v = go (lookup_below d es m l (λ f i. h f (Memᴰ.tail i)) v) (eqb e.place v)
  where
    go : lookup d es v ≤ m → (t : Bool) → cond t e.value (lookup d es v) ≤ m
    go rest true = h e (Memᴰ.head refl)
    go rest false = rest

pub lookup_absent : (d : ℕ) (es : List PlaceValue) (v : ℕ) → ((e : PlaceValue) → Memᴰ e es → e.place ≡ v → ⊥) → lookup d es v ≡ d
unfolding lookup
lookup_absent d [] v h = refl
lookup_absent d (e ∷ es) v h =
    rw (ne_eqb e.place v (h e (Memᴰ.head refl))) (lookup_absent d es v (λ f i. h f (Memᴰ.tail i)))

-- of several for one place the first would be found
pub lookup_own : (d : ℕ) (es : List PlaceValue) → repeats (places_in es) ≡ false → (e : PlaceValue) → Memᴰ e es → lookup d es e.place ≡ e.value
unfolding lookup repeats
lookup_own d [] once e i = absurd (Memᴰ.not-nil i)
lookup_own d (f ∷ es) once e (Memᴰ.head p) = rw (p, eq-eqb f.place f.place refl)
lookup_own d (f ∷ es) once e (Memᴰ.tail i) =
    let (first, rest) = neither (member f.place (places_in es)) _ once in
    let others : f.place ≡ e.place → ⊥
    = λ same. true≢false (sym ((member_true f.place (places_in es)).1 (rw same (Memᴰ.map (λ (x : PlaceValue). x.place) i))) ∙ first) in
    rw (ne_eqb f.place e.place others) (lookup_own d es rest e i)
