-- What a source in memory gives.
use Rattle.std.specs.Prelude.{ℕ, ◌==◌, Bool, List, drop, Result, Ok, Err}
use Rattle.std.specs.List.{list_any}
use Rattle.rtc_io.specs.Faults.{counted}

pub record Feed : Type 0 where
  -- the bytes that are left
  pub left : List ℕ
  -- how many bytes a call gives at most
  pub piece : ℕ
  -- the numbers of the calls that fail, from 0
  pub failing : List ℕ
  -- how many calls there were
  pub calls : ℕ
  -- how many of them failed
  pub faults : ℕ

-- whether the next call fails
abbrev pub will_fail : Feed → Bool
will_fail feed = list_any (λ number. number == feed.calls) feed.failing

-- the source after a call that gave so many bytes, or failed
abbrev pub after_read : {E : Type 0} → Feed → Result ℕ E → Feed
after_read feed (Ok count) = record feed { left = drop count feed.left; calls = counted feed.calls }
after_read feed (Err failed) = record feed { calls = counted feed.calls; faults = counted feed.faults }
