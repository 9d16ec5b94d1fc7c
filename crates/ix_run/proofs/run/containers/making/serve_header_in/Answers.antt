use Rattle.ix_run.proofs.run.containers.making.serve_header_in.Goals as goal

pub returns-in-Queue : goal.returns-in-Queue
returns-in-Queue g c = rw c.in-Queue.is c.serve_storage.ensures

pub returns-in-Vector : goal.returns-in-Vector
returns-in-Vector g c = rw c.in-Vector.is c.serve_storage-in-Vector.ensures

pub returns-in-SlotTable : goal.returns-in-SlotTable
returns-in-SlotTable g c = rw c.in-SlotTable.is c.serve_storage-in-SlotTable.ensures

pub returns-in-SlotMap : goal.returns-in-SlotMap
returns-in-SlotMap g c = rw c.in-SlotMap.is c.serve_storage-in-SlotMap.ensures

pub returns-in-FlatMap : goal.returns-in-FlatMap
returns-in-FlatMap g c = rw c.in-FlatMap.is c.serve_storage-in-FlatMap.ensures

pub returns-in-String : goal.returns-in-String
returns-in-String g c = rw c.in-String.is c.serve_storage-in-String.ensures
