mod LayersLaws
mod RunsLaws
mod MarksLaws
mod FormLaws
