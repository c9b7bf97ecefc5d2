use Rattle.wfc_reply.proofs.putting.put_seeded.Goals as goal

pub returns-clause-put : goal.returns-clause-put
returns-clause-put g c = rw c.words_of_seed-words.ensures.value at c.put_turns.ensures.put

pub returns-clause-cut : goal.returns-clause-cut
returns-clause-cut g c = rw c.words_of_seed-words.ensures.value at c.put_turns.ensures.cut
