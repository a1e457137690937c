-- What a queue keeps.
use Rattle.std.specs.Prelude.{◌≡◌, ℕ, ◌-◌, ◌*◌, ◌<◌, ◌≤◌, List, length, slice_index}
use Rattle.buffer_machine.specs.declared.queue.Queue.TheInside.{Inside}
use Rattle.buffer_machine.specs.Backlog.{Backlog, window}
use Rattle.buffer_machine.specs.Waits.{Covers, NoneCovers}

abbrev pub backlog_of : Inside → Backlog
backlog_of q =
    record {
      lanes = q.lanes;
      waiting = window q.lanes q.addresses.items q.words.items (q.tail - q.head) q.head;
      room = length q.addresses.items - q.tail;
      most = length q.addresses.items;
      span = length q.newest.items;
    }

-- for each word the number of the newest of the stores that have come and are for it, counted from 1, or 0
pub record AreNewest (lanes : ℕ) (addresses newest : List ℕ) (tail : ℕ) : Type 0 where
  pub none_newer : (word : ℕ) → NoneCovers lanes addresses word (slice_index newest word) tail
  pub is_for : (word : ℕ) → 0 < slice_index newest word → (slice_index newest word ≤ tail) × Covers lanes addresses word (slice_index newest word - 1)

pub record IsQueue (q : Inside) : Type 0 where
  pub order : q.head ≤ q.tail
  pub inside : q.tail ≤ length q.addresses.items
  pub size : length q.words.items ≡ length q.addresses.items * q.lanes
  pub few : q.lanes ≤ 16
  pub newest : AreNewest q.lanes q.addresses.items q.newest.items q.tail
