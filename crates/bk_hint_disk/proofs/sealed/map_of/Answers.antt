use Rattle.std.proofs.Common.{◌≡◌, Some, Ok}
use Rattle.bk_hint_disk.proofs.Sealing.{map_read}
use Rattle.bk_hint_disk.proofs.sealed.map_of.Goals as goal

pub returns-in-Ok-Some : goal.returns-in-Ok-Some
returns-in-Ok-Some c =
    let some = c.in-Ok-Some.field-0-is in
    let ok = c.in-Ok-Some.is in
    let is : c.read_map.result ≡ Ok (Some c.in-Ok-Some.map) = cc in
    map_read c.args.tail.now c.args.length c.args.seal.now.header c.in-Ok-Some.map c.read_map.result _ is c.read_map.ensures.answer
