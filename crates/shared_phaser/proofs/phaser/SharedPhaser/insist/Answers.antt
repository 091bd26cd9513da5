use Rattle.shared_phaser.proofs.Tries.{later_more}
use Rattle.shared_phaser.proofs.phaser.SharedPhaser.insist.Goals as goal

pub loop-preserved-in-Lost : goal.loop-preserved-in-Lost
loop-preserved-in-Lost g c = record {
  phaser = c.in-Lost.ensures.phaser;
  later = later_more c.args.party.now.known c.loop.party.known c.attempt-tried.new.party.known 1 c.loop.invariant.later c.in-Lost.ensures.tried.0;
}

pub loop-preserved : goal.loop-preserved
loop-preserved g c = record {
  phaser = c.in-Waiting.ensures.phaser;
  later = later_more c.args.party.now.known c.loop.party.known c.attempt-tried.new.party.known 0 c.loop.invariant.later c.in-Waiting.ensures.tried.0;
}

pub loop-preserved-in-Lost-2 : goal.loop-preserved-in-Lost-2
loop-preserved-in-Lost-2 g c = record {
  phaser = c.in-Lost.ensures.phaser;
  later = later_more c.args.party.now.known c.loop.party.known c.attempt-tried.new.party.known 1 c.loop.invariant.later c.in-Lost.ensures.tried.0;
}
