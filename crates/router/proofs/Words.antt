-- The work area after the call. Assumes nothing.
use mathlib.Core.Path.{◌≡◌, ◌∙◌}
use mathlib.Core.List.{List}
use Prim.Native.Nat.{ℕ}
use native.Mathlib.Omega.{arith}
use lib.ListN.{drop}
use Rattle.area.proofs.Parts.{less_after}
use Rattle.map.specs.declared.Site.{Site}
use Rattle.layout.specs.Regions.{ends_at}
use Rattle.load.specs.Loaded.{Loaded}
use Rattle.search.specs.Rounds.{Searched}
use Rattle.search.specs.declared.Verdict.{Verdict}
use Rattle.map.specs.Sizes.{words_of}

-- Loading and searching leave the words beyond those that the map asks for as they were.
pub rest_kept : {input work₀ loaded work : List ℕ} {s : Site} {allowance : ℕ} {v : Verdict}
    → Loaded input s work₀ loaded → Searched s allowance loaded work v → drop (words_of s) work ≡ drop (words_of s) work₀
rest_kept {loaded = loaded} {work = work} {s = s} l found =
    less_after (words_of s) (ends_at s.places) loaded work (omega arith) found.same_map ∙ l.rest
