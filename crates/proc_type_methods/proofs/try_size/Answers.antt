use Rattle.proc_type_methods.specs.TypeMethods.{try_size}
use Rattle.proc_type_methods.proofs.try_size.Goals as goal

pub leaf_size-requires : goal.leaf_size-requires
leaf_size-requires c = rw c.in-Plain.is at c.requires

pub returns-in-Plain : goal.returns-in-Plain
unfolding try_size
returns-in-Plain c = rw (c.in-Plain.is, c.leaf_size.ensures)

pub returns-in-Array : goal.returns-in-Array
unfolding try_size
returns-in-Array c = rw c.in-Array.is c.array_size.ensures

pub returns-in-RuntimeArray : goal.returns-in-RuntimeArray
unfolding try_size
returns-in-RuntimeArray c = rw c.in-RuntimeArray.is c.runtime_array_size.ensures

pub returns-in-Struct : goal.returns-in-Struct
unfolding try_size
returns-in-Struct c = rw c.in-Struct.is

pub returns-in-Other : goal.returns-in-Other
unfolding try_size
returns-in-Other c = rw (c.in-Other.is, c.non_data_size.ensures)
