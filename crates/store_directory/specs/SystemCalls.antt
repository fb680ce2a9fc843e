-- How calls of the file system end, and what a store answers of them.
use Rattle.std.specs.Prelude.{Bool, true, false, Result, Ok, Err, IsErr, IsTrue}
use Rattle.store_directory.specs.declared.calls.SystemErr.{SystemErr}
use Rattle.store_directory.specs.declared.calls.SystemErr.TheVariants.{Memory as Lacking, Refused, Unsynced}
use Rattle.ice_store.specs.declared.store.StoreErr.{StoreErr}
use Rattle.ice_store.specs.declared.store.StoreErr.TheVariants.{Failed, Memory}

-- want of memory is told as that, and all else as a failure
abbrev pub error_of : SystemErr → StoreErr
error_of Lacking = Memory
error_of Refused = Failed
error_of Unsynced = Failed

-- a value is answered as it is
abbrev pub answer_of : {T : Type 0} → Result T SystemErr → Result T StoreErr
answer_of (Ok value) = Ok value
answer_of (Err error) = Err (error_of error)

-- the system couldn't make something durable
abbrev pub is_unsynced : {T : Type 0} → Result T SystemErr → Bool
is_unsynced (Ok value) = false
is_unsynced (Err Lacking) = false
is_unsynced (Err Refused) = false
is_unsynced (Err Unsynced) = true

-- once a sync was lost, a call fails
abbrev pub FailsOnceLost : {T : Type 0} → Bool → Result T SystemErr → Type 0
FailsOnceLost is_sync_lost done = IsTrue is_sync_lost → IsErr done
