-- `place::answer::answer_within` meets its contract: an answer of drawing, and its text.
use Rattle.place.proofs.answer.answer_within.Goals as goal

pub tell-requires : goal.tell-requires
tell-requires c =
    record {
      answered = record
          { places₀ = c.args.places.now; list₀ = c.args.list.now; answers = record { list = _; draws = c.draw-drawn.ensures } };
      max_text_in_bounds = c.requires;
    }

pub returns : goal.returns
returns c =
    record { places = _; answer = _; answers = record { list = _; draws = c.draw-drawn.ensures }; shows = c.tell.ensures }
