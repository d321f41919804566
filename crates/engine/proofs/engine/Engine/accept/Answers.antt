use Rattle.std.proofs.Common.{sym}
use Rattle.sample.specs.Samples.{sampled}
use Rattle.engine.specs.Views.{setting_of, box_of}
use Rattle.engine.proofs.Judged.{accepts}
use Rattle.engine.proofs.engine.Engine.accept.Goals as goal

pub place-requires : goal.place-requires
place-requires g c =
    let s = c.args.self.now in
    accepts (setting_of s) (box_of s) c.args.port.0 c.args.bytes.now (sampled c.in_ok-sample.sample) (sym c.in_ok-sample.ensures)
