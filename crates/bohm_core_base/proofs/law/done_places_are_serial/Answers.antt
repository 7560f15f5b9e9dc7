use Rattle.bohm_core_base.proofs.Reach.{deeds-settled, done-right, end-told, ender-words, ends-kept, ends-right, has-references, has-sizes, past-references, shown-serial, stored-stands, task-stands, whole-right, word-busy, word-rests, words-begun}
use Rattle.bohm_core_base.proofs.law.done_places_are_serial.Goals as goal

pub returns : goal.returns
returns c = record {
  done = λ batch events index sound. done-right batch sound events index;
  ended = λ batch events slot end sound. ends-right batch sound events slot end;
  ender = λ batch events slot index sound. ender-words batch sound events slot index;
  placed = λ batch events index sound. has-references batch sound events index;
  stored = λ batch events sound. record {
    begun = words-begun batch sound events;
    kept_ends = ends-kept batch sound events;
    finished = whole-right batch sound events;
  };
  stands = λ batch events later sound. stored-stands batch sound events later;
  sized = λ batch events sound. has-sizes batch sound events;
  taken = λ batch events sound. record {
    referred = past-references batch sound events;
    busy = word-busy batch sound events;
    rested = word-rests batch sound events;
  };
  settled = λ batch events index sound run. record {
    settled = λ earlier table. deeds-settled batch sound events index earlier table run.within run.placed run.ready;
    end_told = λ slot. end-told batch sound events index slot run.within run.placed run.ready;
    shown = shown-serial batch sound events index run.within run.placed run.ready;
  };
  steady = λ batch events later actor index sound. task-stands batch sound events later actor index;
}
