-- Document 02, paper 4: "two inputs that differ only in the allowance, with lent areas of the same lengths", said of their bytes.
use Rattle.std.specs.Prelude.{◌≡◌, false, List, ◌++◌, ℕ, ◌^◌, ◌≤◌, ◌<◌, length}
use Rattle.model.specs.Bytes.{put16, put32}
use Rattle.model.specs.Framing.{frame}
use Rattle.model.specs.Items.{job_kind}
use Rattle.model.specs.Calls.{Call}

-- All of an input but the allowance of one job record. Other jobs may stand before and after it, and what follows may be damaged or cut short.
pub record Around : Type 0 where
  -- whole records
  pub earlier : List ℕ
  pub whole : (frame earlier).broken ≡ false
  -- the job's body length, which leaves room for start and allowance
  pub body : ℕ
  pub room : 6 ≤ body
  pub two_bytes : body < 65536
  pub start : ℕ
  -- everything after the allowance
  pub later : List ℕ

-- the input that has this allowance there
unfoldable pub input_with : Around → (allowance : ℕ) → List ℕ
input_with x allowance = x.earlier ++ (put16 x.body ++ put16 job_kind ++ put16 x.start ++ put32 allowance ++ x.later)

-- Two calls whose inputs differ only in the allowance, a in the first and b in the second. What the lent areas hold may differ too.
pub record DifferInAllowance (a b : ℕ) (c d : Call) : Type 0 where
  pub around : Around
  pub first : c.input ≡ input_with around a
  pub second : d.input ≡ input_with around b
  pub four_bytes : (a < 2 ^ 32) × (b < 2 ^ 32)
  pub work : length c.work ≡ length d.work
  pub sheet : length c.sheet ≡ length d.sheet
