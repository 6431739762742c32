-- A class's releases on the words as calls of the model.
use Rattle.model.specs.Calls.{fate, fates}
use Rattle.calls.specs.Release.{Released}
use Rattle.calls.specs.Chunks.{ChunksReleased}
use Rattle.refinement.specs.Direct.{Reply, reply}

abbrev pub list_reply : Released → Reply
list_reply w = reply w.code (fate w.fate) w.book

abbrev pub chunks_reply : ChunksReleased → Reply
chunks_reply w = reply w.code (fates w.fates) w.book
