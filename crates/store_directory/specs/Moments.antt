-- What the machine's clock tells.
use Rattle.std.specs.Prelude.{ℕ, ◌-◌, ◌/◌, ◌^◌, min, Result, Ok, Err}
use Rattle.std.specs.Time.{system_time_nanos}
use Rattle.std.specs.declared.time.SystemTime.{SystemTime}

-- whole milliseconds since 1970, at most the greatest 64-bit number
abbrev pub ms_of : SystemTime → ℕ
ms_of time = min (system_time_nanos time / 1_000_000) (2 ^ 64 - 1)

-- the same, at most the greatest long, and 0 where the clock can't be read
abbrev pub moment_of : {E : Type 0} → Result SystemTime E → ℕ
moment_of (Ok time) = min (ms_of time) (2 ^ 63 - 1)
moment_of (Err e) = 0
