use Rattle.std.proofs.Common.{rules, ◌≡◌}
use Rattle.commands.proofs.Written.{picture_written}
use Rattle.commands.proofs.write_picture.write.Goals as goal

pub returns-in-Ok-clause-done : goal.returns-in-Ok-clause-done
returns-in-Ok-clause-done g c =
    let bytes : c.as_slice.result.now ≡ c.in_ok-shown.shown.bytes.items = search rules in
    picture_written _ c.in_ok-shown.shown.bytes.items c.as_slice.result.now _ _ bytes
    c.in_ok-shown.ensures.picture c.in-Ok.ensures.bytes
