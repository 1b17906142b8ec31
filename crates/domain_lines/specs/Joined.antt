-- What the seats of a domain leave once their scripts have run: its whole history.
use Rattle.mv_history.specs.declared.history.TheConstants.{LAST}
use Rattle.mvrlu.specs.Whole.{Whole}
use Rattle.run_report.specs.Worked.{Past}

-- the whole history of a domain, in which lines have their places; its last printed time is the greatest there is
abbrev pub past_of_whole : Whole → Past
past_of_whole w = record { start = w.start; base = w.base; last = LAST; entries = w.history }
