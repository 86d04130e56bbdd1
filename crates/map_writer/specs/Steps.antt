-- What the steps of the call ask and leave: an input that passes is given room, its lanes are put in order, and its map is written.
use Rattle.std.specs.Prelude.{◌≡◌, List, map, ℕ, ◌<◌, length, drop, Result, Ok}
use Rattle.model.specs.Stated.{stated_in, lookup, default, wait_at}
use Rattle.model.specs.Refusals.{first_that_holds}
use Rattle.map.specs.declared.Job.{Job}
use Rattle.map.specs.declared.Site.{Site}
use Rattle.map.specs.declared.refusal.Refusal.{Refusal}
use Rattle.map.specs.Refusals.{refusal_number}
use Rattle.map.specs.Sizes.{size_of, words_of}
use Rattle.map.specs.Jobs.{States}
use Rattle.layout.specs.Regions.{wait_word, estimate_word}
use Rattle.map_writer.specs.Canonical.{own_estimates, canonical}
use Rattle.lane_rows.specs.Keys.{key_of, keys_between}
use Rattle.map_writer.specs.Call.{output_rows, write_refusal, Writable}

-- no condition of the input holds, nor one of what is lent, and the job is what it states
pub record HasRoom (input : List ℕ) (j : Job) (work output : List ℕ) : Type 0 where
  pub writable : Writable input (length work) (length output)
  pub states : States input j

-- the job of an accepted input and lent areas, or the refusal
pub record Ready (input : List ℕ) (words bytes : ℕ) (r : Result Job Refusal) : Type 0 where
  pub number : refusal_number r ≡ write_refusal input words bytes
  pub states : (j : Job) → r ≡ Ok j → States input j

-- the number that is given for too little room: 14, 15, or 0 for none
abbrev pub room_number : Site → (input words bytes : ℕ) → ℕ
room_number s input words bytes = first_that_holds (output_rows (size_of s) input words bytes)

-- The words hold the keys of the lanes in the canonical order, and the estimate of each place, at goals the default, and its wait.
pub record InOrder (input : List ℕ) (s : Site) (w₀ w : List ℕ) : Type 0 where
  pub keys : keys_between s.places 0 s.arcs w ≡ map (key_of (stated_in input).factors) (canonical (stated_in input)).lanes
  pub estimates : (v : ℕ) → v < s.places → estimate_word s.places w v ≡ lookup (default (stated_in input)) (own_estimates (stated_in input)) v
  pub waits : (v : ℕ) → v < s.places → wait_word s.places w v ≡ wait_at (stated_in input) v
  pub rest : drop (words_of s) w ≡ drop (words_of s) w₀
