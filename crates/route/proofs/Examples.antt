-- What is printed of three inputs, as the definitions compute it. Assumes nothing.
use mathlib.Core.Path.{◌≡◌, refl}
use mathlib.Core.List.{[], ◌∷◌, ◌++◌}
use lib.ListN.{replicate}
use Rattle.model.specs.Jobs.{put_head, put_arc, put_job}
use Rattle.model.proofs.Compute.{compute}
use Rattle.text.specs.Text.{decimal_up_to, decimal, parted, line, too_long}
use Rattle.route.specs.Printed.{places_on, text_of, answered, printed}

-- no record at all: "4 0 0 0 0 0"
nothing : printed [] ≡ 52 ∷ 32 ∷ 48 ∷ 32 ∷ 48 ∷ 32 ∷ 48 ∷ 32 ∷ 48 ∷ 32 ∷ 48 ∷ 10 ∷ []
unfolding compute decimal_up_to decimal parted line places_on text_of answered printed
nothing = refl

-- a route over one arc: "0 1 2 0 2 2", then "1 0"
one_arc : printed (put_head 2 1 ++ put_arc 1 0 1 ++ put_job 1 944 (0 ∷ []))
    ≡ 48 ∷ 32 ∷ 49 ∷ 32 ∷ 50 ∷ 32 ∷ 48 ∷ 32 ∷ 50 ∷ 32 ∷ 50 ∷ 10 ∷ 49 ∷ 32 ∷ 48 ∷ 10 ∷ []
unfolding compute decimal_up_to decimal parted line places_on text_of answered printed
one_arc = refl

long : printed (replicate 65537 0) ≡ too_long
unfolding printed
long = refl
