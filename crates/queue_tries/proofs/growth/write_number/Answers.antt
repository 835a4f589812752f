use Rattle.seg_layout.proofs.Firsts.{firsts_are_inside}
use Rattle.queue_tries.proofs.growth.write_number.Goals as goal

pub place_words-requires-clause-may : goal.place_words-requires-clause-may
place_words-requires-clause-may c =
    let opening = c.opening_number-number.ensures in (
      c.args.current,
      c.args.tail,
      c.args.length,
      opening.0,
      c.requires.stage,
      opening.2.0,
      firsts_are_inside c.args.tail c.args.length c.args.slot opening.0 c.requires.slot.0 opening.2,
      opening.2.1,
      opening.1,
    )
