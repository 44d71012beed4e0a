-- What is told of a tick fits into the room for it.
use Rattle.std.proofs.Common.{◌≡◌, ◌+◌, ◌<◌, ◌≤◌, ◌^◌, ℕ, true, List, [], ◌∷◌, ◌++◌, length, Result, Ok, Err, sym, subst, ◌∙◌, arith}
use Rattle.std.specs.Prelude.{codes, IsOk, OnOk}
use Rattle.std.specs.Fmt.{decimal}
use Rattle.std.proofs.lemmas.Fmt.{length-decimal-le}
use Rattle.std.proofs.lemmas.List.{length-append}
use Rattle.byte_buffer.specs.Outs.{Buffered, HasRoomLeft, Pushes}
use Rattle.program_form.specs.Printed.{done_line}
use Rattle.program_form.specs.declared.told.TheConstants.{DONE_ROOM}

done_fits : (tick : ℕ) → tick < 2 ^ 64 → length (done_line true tick) ≤ DONE_ROOM
unfolding done_line
done_fits tick few =
    let digits : length (decimal tick) ≤ 20 = length-decimal-le 20 tick (omega arith) (omega arith) few in
    omega (arith, digits, length-append (codes "done ") (decimal tick), length-append (codes "done " ++ decimal tick) (10 ∷ []))

-- the line of a program that has ended succeeds and takes no memory
pub done_succeeds : {A E : Type 0} (tick : ℕ) (result : Result A E) (old new : Buffered) → tick < 2 ^ 64 → Pushes (done_line true tick) old result new → HasRoomLeft old DONE_ROOM → IsOk result
done_succeeds tick result old new few p room = p.succeeds (omega (arith, room, done_fits tick few))

pub done_stays : {A E : Type 0} (tick : ℕ) (result : Result A E) (old new : Buffered) → tick < 2 ^ 64 → Pushes (done_line true tick) old result new → HasRoomLeft old DONE_ROOM → new.capacity ≡ old.capacity
done_stays tick result old new few p room = p.stays (omega (arith, room, done_fits tick few))
