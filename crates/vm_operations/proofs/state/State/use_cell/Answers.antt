use Rattle.vm_operations.proofs.state.State.use_cell.Goals as goal

pub returns-in-Dict : goal.returns-in-Dict
returns-in-Dict c = rw c.in-Dict.is c.dict.ensures

pub returns-in-Array : goal.returns-in-Array
returns-in-Array c = rw c.in-Array.is c.array.ensures

pub returns-in-GetProperty : goal.returns-in-GetProperty
returns-in-GetProperty c = rw c.in-GetProperty.is c.get_property.ensures

pub returns-in-SetProperty : goal.returns-in-SetProperty
returns-in-SetProperty c = rw c.in-SetProperty.is c.set_property.ensures

pub returns-in-GetPropertyNullish : goal.returns-in-GetPropertyNullish
returns-in-GetPropertyNullish c = rw c.in-GetPropertyNullish.is c.get_property_nullish.ensures
