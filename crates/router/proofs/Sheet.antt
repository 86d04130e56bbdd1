-- What the writer leaves is the sheet of the verdict's ending. Assumes nothing.
use mathlib.Core.Path.{◌≡◌}
use mathlib.Core.List.{List}
use Prim.Native.Nat.{ℕ}
use Rattle.map.specs.declared.Site.{Site}
use Rattle.model.specs.Answer.{sheet_of, over_front}
use Rattle.search.specs.declared.CutShort.{CutShort}
use Rattle.search.specs.declared.NoGoal.{NoGoal}
use Rattle.search.specs.declared.Reached.{Reached}
use Rattle.search.specs.declared.Verdict.{Verdict}
use Rattle.search.specs.declared.Verdict.TheVariants.{Spent, NoRoute, Routed}
use Rattle.sheet_writer.specs.Write.{NoRouteWritten, RouteWritten}
use Rattle.router.specs.Steps.{Written}

module _ {v : Verdict} {s : Site} {work sheet₀ : List ℕ} where
  -- where the allowance is spent no byte is written
  pub written_nothing : {c : CutShort} → v ≡ Spent c → Written s v work sheet₀ 0 sheet₀
  unfolding sheet_of over_front
  written_nothing is = rw is (record { sheet_bytes = λ e m. rw m; over_front_lem = λ e m. rw m })

  pub written_no_route : {c : NoGoal} {bytes : ℕ} {sheet : List ℕ} → v ≡ NoRoute c
      → NoRouteWritten s.start sheet₀ sheet bytes → Written s v work sheet₀ bytes sheet
  unfolding sheet_of
  written_no_route is h = rw is (record { sheet_bytes = λ e m. rw m h.bytes; over_front_lem = λ e m. rw m h.written })

  pub written_route : {c : Reached} {bytes : ℕ} {sheet : List ℕ} → v ≡ Routed c
      → RouteWritten s.places c.goal c.cost work sheet₀ sheet bytes → Written s v work sheet₀ bytes sheet
  unfolding sheet_of
  written_route is h =
      rw is (record {
        sheet_bytes = λ e (places, m, follows). rw m (h.bytes places follows);
        over_front_lem = λ e (places, m, follows). rw m (h.written places follows);
      })
